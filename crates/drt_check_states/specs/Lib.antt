pub mod Children
pub mod Crests
pub mod Curves
pub mod Places
