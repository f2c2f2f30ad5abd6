-- What the proofs of the reader speak of. No public contract rests on these.
pub mod Kinds
pub mod Parsed
pub mod Reader
pub mod StateFaults
pub mod Steps
pub mod Strict
