pub mod Order
pub mod Marks
pub mod Gaps
pub mod Asking
pub mod Entries
