pub mod Parts
pub mod Pairs
pub mod PairsLemmas
pub mod PartsLemmas
