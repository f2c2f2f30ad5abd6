pub mod Greatest
pub mod Leaves
pub mod Rises
pub mod Sweeps
pub mod Values
