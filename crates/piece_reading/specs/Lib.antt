pub mod Taker
pub mod Through
