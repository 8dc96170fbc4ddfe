pub mod Marks
pub mod ShortLines
pub mod Trees
pub mod Sizes
