pub mod Turns
pub mod Listening
pub mod Runs
pub mod Owed
pub mod Promise
pub mod Faults
pub mod Answers
