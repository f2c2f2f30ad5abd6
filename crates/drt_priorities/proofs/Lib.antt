pub mod Prioritised
