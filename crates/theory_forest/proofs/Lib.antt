pub mod Shape
pub mod Closure
pub mod Table
pub mod Fragments
pub mod Forests
pub mod Words
pub mod Weights
