pub mod Cutting
pub mod Counting
pub mod Pairing
pub mod Lawful
pub mod Spelled
