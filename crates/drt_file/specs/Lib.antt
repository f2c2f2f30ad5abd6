pub mod internal
pub mod trusted
