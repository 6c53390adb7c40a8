pub mod Cells
pub mod Tenants
pub mod Counts
pub mod Pages
pub mod Totals
pub mod Rows
pub mod Meaning
