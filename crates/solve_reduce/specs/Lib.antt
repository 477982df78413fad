pub mod Reduced
pub mod Staying
pub mod Chosen
