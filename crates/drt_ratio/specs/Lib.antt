pub mod Claims
pub mod Levels
pub mod SetRatios
