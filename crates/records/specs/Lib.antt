pub mod Records
pub mod Layouts
pub mod RecordFrames
pub mod RunKind
