pub mod Scales
pub mod Bench
pub mod Found
