pub mod Faults
pub mod Tables
pub mod Calls
