pub mod Shape
pub mod Table
