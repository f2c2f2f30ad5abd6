pub mod Task
pub mod Trees
pub mod Laws
