pub mod Lists
pub mod Places
pub mod Runs
pub mod Views
pub mod Writes
