pub mod AtOne
pub mod Edges
pub mod TaskFiles
pub mod Dossiers
pub mod Spots
pub mod Verdicts
