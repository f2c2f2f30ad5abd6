pub mod Inputs
pub mod Rules
pub mod Runs
