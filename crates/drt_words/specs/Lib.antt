pub mod CommandLine
pub mod Number
pub mod Meaning
pub mod Plain
