-- What only private functions cite.
pub mod Judged
pub mod Keeping
pub mod Working
pub mod Nodes
pub mod Splitting
pub mod Walking
pub mod Filling
