-- The lemmas behind the laws, from the ground up.
pub mod Barred
pub mod RowsOfCandidates
pub mod LowestRow
pub mod WithinVariables
pub mod ReadingsOfRows
