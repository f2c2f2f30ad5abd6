pub mod Eachs
pub mod Orders
pub mod SoundRoom
mod Closings
mod Rooms
