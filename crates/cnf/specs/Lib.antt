-- What the clause writer's contracts cite.
pub mod Code
pub mod Counted
pub mod Tallied
pub mod TalliedLaws
