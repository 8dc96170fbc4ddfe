pub mod Lifting
pub mod Packing
