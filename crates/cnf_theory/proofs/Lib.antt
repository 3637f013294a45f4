-- The lemmas behind the laws, from the ground up.
pub mod Clauses
pub mod Functions
pub mod Counter
pub mod TestSound
pub mod TestComplete
pub mod Row
pub mod Theorem
pub mod Range
pub mod Lengths
