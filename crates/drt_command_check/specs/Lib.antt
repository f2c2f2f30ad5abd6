pub mod Verdict
pub mod Check
