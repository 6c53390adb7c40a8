pub mod Bitmaps
pub mod Forms
pub mod Ors
