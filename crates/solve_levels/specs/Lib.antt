pub mod Decisions
pub mod Levels
