pub mod Stands
pub mod Search
