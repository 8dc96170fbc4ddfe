-- What the functions inside the crate say of their values to one another. No contract of a public function speaks of it.
pub mod Arities
pub mod Names
pub mod Faults
pub mod Actions
