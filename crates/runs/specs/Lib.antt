pub mod Order
pub mod Runs
pub mod Union
