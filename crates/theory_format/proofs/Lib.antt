pub mod Whole
pub mod Length
pub mod Spelling
pub mod Tidy
pub mod Refusals
