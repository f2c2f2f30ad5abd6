mod SimpleCycles
mod Periods
mod Drawn
pub mod BenchLemmas
mod Taken
