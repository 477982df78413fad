pub mod States
pub mod Moves
