-- What the gates of a circuit may be, and what that says of their bits.
pub mod Gates
pub mod Evaluated
pub mod EvaluationLaws
