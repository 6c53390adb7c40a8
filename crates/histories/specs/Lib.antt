pub mod Deeds
pub mod Paths
pub mod Search
pub mod Folds
