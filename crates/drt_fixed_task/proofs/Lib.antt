pub mod Due
pub mod HigherTasks
pub mod Lists
pub mod Passing
pub mod Placed
pub mod Refused
pub mod Vertices
