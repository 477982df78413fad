pub mod Thinning
pub mod Searching
pub mod Spelling
