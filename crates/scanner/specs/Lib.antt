pub mod Scanned
pub mod Named
pub mod Parsed
