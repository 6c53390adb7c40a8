pub mod Written
pub mod Saying
pub mod Serving
pub mod Playing
pub mod Opening
pub mod Scripted
pub mod Paging
pub mod Filling
