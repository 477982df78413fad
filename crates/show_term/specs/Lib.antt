pub mod Terms
pub mod Written
