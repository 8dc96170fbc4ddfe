pub mod Operations
pub mod Renamed
pub mod Meaning
pub mod Texts
pub mod Machine
