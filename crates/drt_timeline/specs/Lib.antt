pub mod Spans
pub mod Events
pub mod Joining
pub mod Gathering
pub mod Timeline
pub mod Text
pub mod Names
pub mod Printing
