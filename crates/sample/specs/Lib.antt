pub mod Records
pub mod Sample
pub mod Forms
pub mod Layouts
