-- What only the invariant cites.
pub mod Entries
