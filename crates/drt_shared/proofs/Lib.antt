pub mod Goes
pub mod Boards
pub mod Calls
pub mod Places
pub mod Holds
