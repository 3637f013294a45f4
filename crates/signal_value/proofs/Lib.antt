pub mod Included
pub mod Images
pub mod Lanes
