pub mod Budgets
pub mod Names
pub mod Texts
pub mod Files
