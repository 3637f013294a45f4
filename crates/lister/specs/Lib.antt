-- What the contracts of the lister cite.
pub mod Asked
pub mod NextSet
pub mod Readings
pub mod Explained
pub mod Weighed
pub mod WeighedLaws
