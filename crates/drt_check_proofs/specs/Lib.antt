pub mod Passing
pub mod Places
pub mod Points
pub mod Shapes
pub mod Subjects
