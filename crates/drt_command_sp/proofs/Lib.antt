pub mod SpPromises
mod SpVerdict
