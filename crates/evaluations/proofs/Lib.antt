pub mod Greatest
pub mod Later
pub mod Lines
pub mod Named
pub mod Readings
pub mod SoFar
