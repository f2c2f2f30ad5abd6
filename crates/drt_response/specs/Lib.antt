pub mod Answers
pub mod Laws
pub mod Placed
pub mod Subjects
pub mod Tails
