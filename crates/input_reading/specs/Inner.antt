pub mod Telling
pub mod Domains
pub mod Causes
