pub mod Marks
pub mod Arcs
pub mod Offers
pub mod Merging
pub mod Gathered
