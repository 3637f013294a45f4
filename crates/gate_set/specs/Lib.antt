-- What the contracts of sets of gates cite.
pub mod Held
pub mod Ascending
