pub mod Divisors
pub mod CommonMultiples
pub mod Fractions
