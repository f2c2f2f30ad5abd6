pub mod Rule
pub mod Assign
pub mod Needs
pub mod Laws
pub mod Steps
