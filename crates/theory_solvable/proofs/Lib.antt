pub mod Free
pub mod Topmost
pub mod Joins
pub mod Raised
pub mod Eliminated
