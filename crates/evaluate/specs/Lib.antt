-- What the evaluator takes, and what its values say.
pub mod Forced
pub mod Connectives
