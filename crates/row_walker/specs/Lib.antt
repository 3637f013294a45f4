pub mod Masks
pub mod Stands
