pub mod Carries
pub mod Successors
pub mod Ways
pub mod Positions
pub mod Solution
pub mod ReadsBack
pub mod Bound
