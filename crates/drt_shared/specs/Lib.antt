pub mod Replies
pub mod Passes
pub mod Finds
pub mod TableBoard
pub mod Shared
