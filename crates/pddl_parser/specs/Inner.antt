pub mod Choosing
pub mod SectionReading
pub mod Answering
