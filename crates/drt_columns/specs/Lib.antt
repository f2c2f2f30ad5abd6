pub mod Entries
pub mod Kept
pub mod Seeking
pub mod Shelf
pub mod Slots
