-- What only the invariant and private functions cite.
pub mod Tree
pub mod Nodes
