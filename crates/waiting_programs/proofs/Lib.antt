pub mod Times
pub mod Exchanging
pub mod Stored
pub mod Sharing
