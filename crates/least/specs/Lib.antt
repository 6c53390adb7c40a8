pub mod Least
pub mod Forms
