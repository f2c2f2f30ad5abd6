pub mod Leaves
mod Apart
pub mod Trees
pub mod Labels
pub mod Counts
pub mod Crossing
