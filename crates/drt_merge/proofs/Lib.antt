pub mod Walks
pub mod Rows
pub mod Taken
pub mod Closed
pub mod Entries
pub mod Merged
