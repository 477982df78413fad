pub mod Walks
pub mod Ways
pub mod Ends
