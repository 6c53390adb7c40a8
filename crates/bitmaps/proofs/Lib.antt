pub mod LowestZeros
pub mod Roots
pub mod Marks
