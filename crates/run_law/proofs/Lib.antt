-- The lemmas behind the law over runs, from the ground up.
pub mod Histories
pub mod Steps
pub mod Runs
pub mod Unlawful
pub mod RightRun
