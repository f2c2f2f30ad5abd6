pub mod Answers
pub mod Subjects
pub mod Walks
pub mod Trials
pub mod Misses
pub mod Reaching
