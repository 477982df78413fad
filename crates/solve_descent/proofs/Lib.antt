pub mod Walk
pub mod Filling
