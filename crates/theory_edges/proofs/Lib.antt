pub mod Edges
pub mod Pigeonhole
pub mod Cyclic
pub mod Tables
pub mod Ends
pub mod Agreement
pub mod Growing
