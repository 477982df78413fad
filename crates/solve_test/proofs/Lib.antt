pub mod Spreading
pub mod Rounds
pub mod Filled
pub mod Solved
