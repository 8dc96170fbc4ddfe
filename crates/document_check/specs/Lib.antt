pub mod Documents
pub mod Files
pub mod Remaining
pub mod Fronts
pub mod Standing
pub mod Inner
