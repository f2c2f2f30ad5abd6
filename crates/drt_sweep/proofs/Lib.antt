pub mod Works
pub mod Sweeps
pub mod Lists
pub mod Thinned
