pub mod Owing
pub mod Answers
pub mod Sessions
pub mod Standing
pub mod Printed
pub mod Writing
pub mod Scripts
