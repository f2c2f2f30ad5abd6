pub mod Halving
pub mod Growing
pub mod Counting
pub mod Leaves
pub mod Placing
pub mod Rising
pub mod Taking
pub mod Valuing
