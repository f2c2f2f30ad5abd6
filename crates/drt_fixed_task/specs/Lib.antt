pub mod Answers
pub mod Higher
pub mod Subjects
pub mod Tails
pub mod Walks
