pub mod Leaf
pub mod Tree
pub mod Shape
