pub mod Keep
pub mod Fit
pub mod Gather
