mod GreatestDeadline
mod Orders
pub mod Ranked
mod Eachs
mod Naming
mod Shorts
mod Asks
mod Looks
mod Dominators
mod Domination
mod Thinning
mod Extending
mod Rows
