-- What the contracts of the formula's lines cite.
pub mod Texts
pub mod Picked
pub mod PickedLaws
pub mod LineCall
