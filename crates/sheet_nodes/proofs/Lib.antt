pub mod Holds
pub mod Walk
