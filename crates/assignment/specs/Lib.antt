pub mod Stored
pub mod Assignment
pub mod Statuses
pub mod Trail
