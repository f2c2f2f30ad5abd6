pub mod SoundNo
pub mod SoundRatios
pub mod SoundWalks
pub mod SoundHorizon
pub mod SoundFronts
pub mod SoundYes
pub mod SoundTrees
pub mod SoundCovers
pub mod SoundOrder
pub mod SoundProofs
pub mod SoundTimes
pub mod SoundFixed
pub mod SoundStates
pub mod Sound
pub mod Pasts
pub mod Judged
mod Bounds
mod Lists
mod Naming
mod Accepted
mod Rows
mod Sorted
mod Table
mod Plain
