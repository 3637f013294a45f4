-- What is added for the next set, and what its rows say, in the order to read them.
pub mod Added
pub mod Enough
pub mod CandidateLaws
