pub mod Given
pub mod Plans
pub mod CycleTurns
pub mod Laws
