pub mod Priorities
pub mod Laws
