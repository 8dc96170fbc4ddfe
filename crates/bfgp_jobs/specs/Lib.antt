pub mod Reply
pub mod Due
pub mod Answers
pub mod Headline
pub mod Acceptance
pub mod Exit
pub mod Process
pub mod Inner
