pub mod Finding
pub mod Folding
pub mod Exactly
