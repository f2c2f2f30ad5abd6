pub mod Sentences
pub mod Advice
