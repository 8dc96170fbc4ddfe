pub mod Reading
pub mod TypedReading
pub mod GroupReading
pub mod Leaving
pub mod Alike
