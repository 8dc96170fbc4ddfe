pub mod Pool
pub mod Inner
