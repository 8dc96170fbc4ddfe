pub mod Ranking
pub mod Keys
pub mod Evaluations
pub mod Orders
pub mod Inner
