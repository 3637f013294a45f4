-- The lemmas of the lines.
pub mod Appending
pub mod Lines
