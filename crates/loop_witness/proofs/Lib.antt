pub mod MarkSteps
pub mod Repeating
pub mod Watching
