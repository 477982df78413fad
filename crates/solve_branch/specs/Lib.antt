pub mod States
pub mod Dives
pub mod Dead
