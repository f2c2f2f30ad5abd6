pub mod Ends
pub mod Masks
pub mod Passing
pub mod Pushing
pub mod Shelves
pub mod Slots
