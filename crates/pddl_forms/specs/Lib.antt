pub mod Lexemes
pub mod Forms
pub mod SharedTypes
pub mod Offending
pub mod Inner
