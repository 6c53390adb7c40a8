pub mod Faults
pub mod Lines
pub mod Fields
pub mod Asking
pub mod Laws
pub mod Spelling
