-- What only private functions and laws cite.
pub mod KeyOrder
pub mod Lines
