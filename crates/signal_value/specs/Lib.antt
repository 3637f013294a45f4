-- What values stand for, and the law of the operations on them.
pub mod Possible
pub mod Law
pub mod Kept
