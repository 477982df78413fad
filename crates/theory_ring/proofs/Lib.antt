pub mod Ways
pub mod Cuts
pub mod Choice
pub mod Directed
pub mod Fragments
