mod Above
mod Enough
mod Missed
