pub mod Shifting
pub mod Ending
