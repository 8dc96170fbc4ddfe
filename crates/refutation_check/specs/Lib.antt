pub mod Walking
pub mod Inner
