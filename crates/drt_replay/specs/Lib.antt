pub mod Queue
pub mod Board
pub mod Events
