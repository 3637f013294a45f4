-- The definitions and the laws of diagnosis, in the order to read them.
pub mod Sets
pub mod Explains
pub mod Order
pub mod Minimal
pub mod FullList
pub mod Witness
pub mod ExplainingLaws
pub mod ListLaws
pub mod Next
pub mod Marked
pub mod Readings
