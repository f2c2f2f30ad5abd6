pub mod Answers
pub mod Searching
