-- The lemmas on ascending numbers.
pub mod AscendingNumbers
