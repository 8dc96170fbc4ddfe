pub mod Names
pub mod Texts
pub mod Lines
pub mod Reading
pub mod Gathered
pub mod Inner
