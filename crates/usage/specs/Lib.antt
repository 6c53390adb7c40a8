pub mod Faults
pub mod Cells
pub mod Rows
pub mod Pages
pub mod Meaning
