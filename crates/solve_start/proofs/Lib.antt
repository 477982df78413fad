pub mod Starts
pub mod Accepted
