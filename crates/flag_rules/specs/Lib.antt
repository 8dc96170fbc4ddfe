pub mod Counts
pub mod Line
pub mod Name
pub mod Flags
