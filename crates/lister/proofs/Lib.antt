-- The lemmas of the lister.
pub mod Mapped
pub mod FittingParts
pub mod Barring
pub mod Enough
pub mod SetMore
pub mod Nexts
pub mod ReadingBytes
pub mod ReadingTests
