pub mod Drawn
pub mod Timeline
pub mod Inputs
pub mod Reached
pub mod Response
