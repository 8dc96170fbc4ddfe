pub mod Replying
pub mod Body
pub mod Telling
