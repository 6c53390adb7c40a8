pub mod Kinds
pub mod Counting
pub mod Values
pub mod Turns
