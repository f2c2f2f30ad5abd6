pub mod RatioClaims
pub mod Rates
pub mod Demands
