pub mod Text
pub mod Ranges
pub mod Reading
pub mod Rows
