pub mod Cutting
pub mod ReadNumbers
pub mod ReadLines
pub mod Worded
pub mod OneReading
pub mod NoFeed
pub mod Lengths
pub mod Documents
