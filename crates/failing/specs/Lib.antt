-- Which tests a circuit misses, and the words that evaluate all tests at once.
pub mod Missed
pub mod Columns
