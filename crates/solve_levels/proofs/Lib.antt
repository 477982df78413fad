pub mod Tables
pub mod Stack
pub mod Fitting
