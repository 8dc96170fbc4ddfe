pub mod Domains
pub mod Problems
pub mod Families
pub mod Parts
