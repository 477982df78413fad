pub mod Halves
pub mod Decisions
pub mod Positions
pub mod States
