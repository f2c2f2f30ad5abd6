-- The definitions that the public contracts rest on.
pub mod Canonical
pub mod CanonicalPrefix
pub mod Cutting
pub mod Faults
pub mod Laws
pub mod Line
pub mod Reading
pub mod Words
