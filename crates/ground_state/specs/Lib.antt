pub mod GroundAtoms
pub mod Task
pub mod Instance
pub mod State
pub mod Ground
pub mod Action
pub mod Inner
