pub mod Text
pub mod Verdict
pub mod Besides
pub mod Margin
pub mod Steps
