mod InputLemmas
mod NoLemmas
mod ReachedLemmas
mod ResponseLemmas
mod ResponsePromises
mod TimelinePromises
