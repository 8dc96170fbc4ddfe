pub mod OneReport
pub mod Solving
pub mod Telling
