pub mod Kinds
pub mod KindLaws
pub mod Circuits
pub mod Held
pub mod Tests
pub mod SignalEq
