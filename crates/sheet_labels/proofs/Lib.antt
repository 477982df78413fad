pub mod Fits
pub mod Gathers
pub mod Kept
