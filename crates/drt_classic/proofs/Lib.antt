pub mod Agree
mod ClassicRows
pub mod Complete
pub mod Fits
pub mod Follow
pub mod KeepLimits
pub mod Lines
pub mod Loops
pub mod Reader
pub mod Runs
pub mod SomeOf
pub mod Sound
pub mod States
pub mod Whole
