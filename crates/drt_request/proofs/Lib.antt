pub mod Limits
pub mod Walks
pub mod Totals
