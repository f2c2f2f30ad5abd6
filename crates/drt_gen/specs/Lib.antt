pub mod Draws
pub mod Generated
pub mod Laws
