pub mod TurnedEdges
pub mod Reversed
pub mod Curves
pub mod TailFronts
