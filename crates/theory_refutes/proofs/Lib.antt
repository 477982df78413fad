pub mod Cycles
pub mod Excludes
pub mod Places
