pub mod Step
pub mod Reader
pub mod Labels
pub mod Turn
pub mod Run
