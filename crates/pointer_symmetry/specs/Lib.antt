pub mod Renamed
pub mod Used
pub mod Twins
pub mod Counterparts
pub mod Inner
