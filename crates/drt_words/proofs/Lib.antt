pub mod NumberLemmas
pub mod PlainLemmas
pub mod BadNumbers
pub mod PlainTimelines
mod WordWalks
mod BadWalks
mod BadOptions
mod Building
mod Entering
mod OptionCases
mod Options
mod PlainMargins
mod PlainSearches
mod PlainWalks
mod Readiness
mod Spots
