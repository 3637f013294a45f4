-- The lemmas of the writer.
pub mod Wrote
pub mod Pieces
pub mod Held
pub mod CounterLength
pub mod Sized
