pub mod Slots
pub mod Written
pub mod Ties
pub mod Views
pub mod Makings
pub mod Releases
