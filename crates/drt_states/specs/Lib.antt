pub mod Tails
pub mod States
