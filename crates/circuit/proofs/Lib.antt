pub mod Tested
pub mod Wiring
pub mod KindsAsNamed
