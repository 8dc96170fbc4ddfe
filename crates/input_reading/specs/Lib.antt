pub mod Faults
pub mod Steps
pub mod Causes
pub mod Grounding
pub mod Inputs
pub mod Asked
pub mod Posed
pub mod Inner
