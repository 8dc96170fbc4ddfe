pub mod Covers
pub mod Grammar
pub mod Accepted
pub mod Splits
