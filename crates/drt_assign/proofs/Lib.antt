pub mod Passing
pub mod Orders
pub mod Ranges
pub mod Trials
pub mod Ranks
pub mod Tried
pub mod Needs
pub mod Ends
