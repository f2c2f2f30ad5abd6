pub mod Line
pub mod Data
