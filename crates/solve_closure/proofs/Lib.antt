pub mod Laws
pub mod Edges
pub mod GraphRows
