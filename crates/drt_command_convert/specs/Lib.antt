pub mod Verdict
pub mod Besides
pub mod Convert
