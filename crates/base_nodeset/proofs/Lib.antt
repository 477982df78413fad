pub mod Words
pub mod Laws
pub mod Members
pub mod Writing
