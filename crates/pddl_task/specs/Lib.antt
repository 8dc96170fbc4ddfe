pub mod Names
pub mod Types
pub mod Faults
pub mod Parts
pub mod Replies
pub mod Inner
