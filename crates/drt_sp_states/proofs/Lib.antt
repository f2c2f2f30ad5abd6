pub mod Labelled
pub mod Pooled
pub mod Responses
