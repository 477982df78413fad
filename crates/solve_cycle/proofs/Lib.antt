pub mod Thins
pub mod Searches
pub mod Spells
pub mod Cycles
