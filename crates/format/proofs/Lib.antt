pub mod Examples
pub mod Labels
pub mod Terms
