pub mod Lists
pub mod Children
pub mod Covering
pub mod Holding
