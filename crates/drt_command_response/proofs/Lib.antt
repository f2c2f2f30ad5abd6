pub mod ResponsePromises
mod ResponseLines
mod ResponseVertices
mod ResponseVerdict
