pub mod Faults
pub mod Kind
