-- What replay and settled ask, and what they write.
pub mod Asked
pub mod Written
pub mod ForcedSets
pub mod SettledLaw
