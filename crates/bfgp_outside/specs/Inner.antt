pub mod Held
pub mod OpenFile
