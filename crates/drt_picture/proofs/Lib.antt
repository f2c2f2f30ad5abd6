pub mod ScaleLemmas
pub mod Orders
pub mod PartLemmas
pub mod EventLemmas
pub mod LayoutLemmas
pub mod PageLemmas
pub mod ReachLemmas
mod Mapping
