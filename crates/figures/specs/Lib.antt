pub mod Figures
pub mod Example
pub mod Scripts
