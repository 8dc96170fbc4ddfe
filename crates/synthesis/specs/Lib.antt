pub mod Search
pub mod Answers
pub mod BestFirst
pub mod Spent
pub mod Enough
pub mod FreshWork
pub mod Inner
