pub mod Clauses
pub mod Questions
