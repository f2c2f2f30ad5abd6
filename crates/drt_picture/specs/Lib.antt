pub mod Moments
pub mod Scale
pub mod Layout
pub mod Reach
