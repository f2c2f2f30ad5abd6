pub mod Places
pub mod Subjects
