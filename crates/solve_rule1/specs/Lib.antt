pub mod Solved
pub mod Carried
pub mod Step
