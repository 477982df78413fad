pub mod SolvedTables
pub mod Climbing
pub mod Choosing
pub mod Stepping
