pub mod Demand
pub mod Laws
pub mod WalkLabel
pub mod Dbf
