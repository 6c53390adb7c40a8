pub mod Walks
pub mod RecordFrames
pub mod RunLaws
pub mod Layouts
pub mod Rows
