pub mod SpanLemmas
pub mod GatheringLemmas
pub mod PrintLemmas
pub mod NameLemmas
mod Rows
pub mod LatenessLemmas
