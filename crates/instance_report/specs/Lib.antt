pub mod Runs
pub mod Report
pub mod Inner
