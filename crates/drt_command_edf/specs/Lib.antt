pub mod Besides
pub mod Edf
