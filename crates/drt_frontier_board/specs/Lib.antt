pub mod Finds
pub mod Replies
pub mod FrontierBoard
