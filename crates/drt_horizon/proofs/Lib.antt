pub mod Turns
pub mod Givens
pub mod Horizons
pub mod Multiples
pub mod Overloads
pub mod CycleTurnRows
pub mod Walks
