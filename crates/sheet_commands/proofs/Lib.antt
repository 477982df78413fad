pub mod Steps
pub mod Turns
pub mod Runs
