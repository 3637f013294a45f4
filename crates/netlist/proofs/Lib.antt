pub mod Admitted
pub mod Lined
pub mod Found
pub mod Shown
pub mod LineByLine
