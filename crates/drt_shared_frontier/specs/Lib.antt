pub mod Passes
pub mod Shared
