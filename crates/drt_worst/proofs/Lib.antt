pub mod Steps
mod Least
pub mod Below
mod Runs
mod Spending
mod Different
pub mod Places
pub mod Turns
pub mod Ends
pub mod Sends
pub mod Wholes
