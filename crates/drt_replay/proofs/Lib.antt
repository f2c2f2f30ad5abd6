pub mod QueueLemmas
pub mod BoardLemmas
pub mod QueueEvents
pub mod Stretches
pub mod EventLemmas
pub mod PickLemmas
pub mod AdvanceLemmas
pub mod LateLemmas
