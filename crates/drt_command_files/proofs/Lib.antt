pub mod TaskFileLemmas
pub mod SpotLemmas
pub mod Abouts
pub mod AboutOne
pub mod EdgeCycles
pub mod AtOneLemmas
