pub mod GateImages
pub mod Covered
pub mod Known
pub mod Folded
