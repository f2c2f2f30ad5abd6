mod Grown
mod Heads
mod Joined
mod MarginPromises
mod Spots
