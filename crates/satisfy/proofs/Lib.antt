pub mod Adding
pub mod Reading
