-- The lemmas about what a solver takes and answers.
pub mod Answering
pub mod Filling
