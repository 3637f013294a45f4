pub mod Stored
pub mod Recorded
pub mod Backtracking
pub mod Weights
pub mod Statuses
