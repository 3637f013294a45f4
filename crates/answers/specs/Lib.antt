-- What a solver takes and answers, in the order to read them.
pub mod Fed
pub mod FedLaws
pub mod Loaded
pub mod Assumed
