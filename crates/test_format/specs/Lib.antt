pub mod Packing
pub mod Records
pub mod Logs
pub mod Amending
pub mod Law
