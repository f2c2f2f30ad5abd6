pub mod CheckLemmas
pub mod CheckPromises
mod CheckVerdict
