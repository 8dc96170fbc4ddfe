pub mod Places
pub mod Renamings
pub mod Alphabets
pub mod Runs
pub mod Programs
pub mod Standings
pub mod Outcomes
pub mod Verdicts
