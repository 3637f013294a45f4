-- The lemmas behind the laws, from the ground up.
pub mod Members
pub mod Simulated
pub mod Consistent
pub mod Measured
pub mod Searched
pub mod ForcedByte
pub mod Ordered
pub mod Subsets
pub mod Marked
pub mod Chosen
pub mod Dropped
pub mod Listed
pub mod Nexts
pub mod TotalOrder
