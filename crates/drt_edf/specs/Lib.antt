pub mod Plans
pub mod Walks
pub mod Spent
pub mod Answers
pub mod Searches
pub mod Turns
pub mod Exclusions
