-- Runs of a case: the calls and their answers, what is held after them, what is asked, the law, and some runs that it allows or not, in the order to read them.
pub mod Calls
pub mod Held
pub mod Questions
pub mod Law
pub mod WrongRuns
