pub mod Words
pub mod Statements
pub mod Netlists
pub mod Meaning
pub mod Law
pub mod Written
