pub mod Judging
pub mod Laws
pub mod Deciding
pub mod Claimed
pub mod Named
