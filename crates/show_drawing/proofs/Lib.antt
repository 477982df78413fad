pub mod Texts
pub mod Loops
pub mod Parts
pub mod Runs
pub mod Bound
pub mod Sizes
pub mod GraphDrawn
