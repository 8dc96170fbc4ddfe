pub mod Lexing
pub mod Parentheses
pub mod Inner
