pub mod commands
