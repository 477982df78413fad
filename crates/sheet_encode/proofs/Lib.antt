pub mod Runs
pub mod GraphBytes
