pub mod Holds
pub mod Totals
pub mod Sends
