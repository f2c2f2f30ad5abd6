pub mod EdfLemmas
pub mod EdfPromises
mod EdfVerdict
