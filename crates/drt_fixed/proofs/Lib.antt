pub mod Ahead
pub mod Beside
pub mod Decisions
pub mod Prefixes
