-- What only the invariant and private functions cite.
pub mod Holds
pub mod Sharing
