pub mod Attained
pub mod Turned
pub mod Cut
