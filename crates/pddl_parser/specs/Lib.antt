pub mod Sections
pub mod Grammar
pub mod Replies
pub mod Spelled
pub mod Inner
