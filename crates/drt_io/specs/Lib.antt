pub mod Causes
pub mod Devices
pub mod Reading
pub mod Writing
