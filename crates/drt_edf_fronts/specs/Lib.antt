pub mod Needs
pub mod LabelFronts
pub mod Ends
pub mod Falling
pub mod DemandWalk
pub mod Bounded
