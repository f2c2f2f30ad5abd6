pub mod Besides
pub mod Sp
