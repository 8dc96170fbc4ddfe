pub mod Runs
pub mod Walking
pub mod Judging
