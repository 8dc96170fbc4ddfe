pub mod Causes
pub mod Inner
pub mod MemoryShelf
pub mod MemorySink
pub mod Real
pub mod Shelf
pub mod Sink
pub mod Whole
