pub mod Trees
pub mod Slots
pub mod Places
pub mod Merging
pub mod Holding
