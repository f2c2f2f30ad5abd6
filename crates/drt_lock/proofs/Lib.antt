mod Sums
pub mod Steps
pub mod Crossing
