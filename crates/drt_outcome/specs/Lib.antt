pub mod Stops
pub mod Notices
