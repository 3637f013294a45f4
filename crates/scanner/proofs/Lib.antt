pub mod Ahead
pub mod Gathered
