pub mod Margin
pub mod Past
pub mod Answers
pub mod Steps
