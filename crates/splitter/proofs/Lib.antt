pub mod Solving
pub mod Splitting
pub mod Chaining
