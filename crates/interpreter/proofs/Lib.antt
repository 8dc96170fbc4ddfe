pub mod Alike
pub mod Following
pub mod MarkCounts
pub mod Noticing
pub mod InTime
pub mod Outcomes
pub mod Shared
