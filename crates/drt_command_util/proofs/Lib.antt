pub mod UtilLemmas
pub mod UtilPromises
