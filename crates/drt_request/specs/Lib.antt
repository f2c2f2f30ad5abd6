pub mod Request
pub mod Laws
pub mod Walk
