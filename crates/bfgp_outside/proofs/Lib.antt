pub mod Following
mod Front
mod HeldFiles
pub mod Puts
pub mod Written
