pub mod Sorting
pub mod Accepting
