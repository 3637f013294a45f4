pub mod Held
pub mod Faults
