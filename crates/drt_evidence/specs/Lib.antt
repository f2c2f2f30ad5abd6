pub mod Text
pub mod Fields
pub mod Reading
pub mod LineForms
pub mod Cuts
pub mod Blocks
pub mod Some
pub mod Laws
