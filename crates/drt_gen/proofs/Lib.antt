pub mod Shifts
pub mod Made
pub mod Limits
mod Rows
