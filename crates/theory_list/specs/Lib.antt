pub mod Redundancy
pub mod Choosing
pub mod Settled
pub mod Readings
pub mod Guided
pub mod Keeping
