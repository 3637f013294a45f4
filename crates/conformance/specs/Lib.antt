pub mod TruthTables
pub mod Tallies
pub mod Scripts
