-- The formula and what it says, in the order to read them.
pub mod Literals
pub mod Variables
pub mod Counter
pub mod Gates
pub mod Formula
pub mod FormulaLaws
pub mod Sizes
pub mod Dimacs
