pub mod Unread
pub mod Following
pub mod ReadingOn
pub mod Pending
