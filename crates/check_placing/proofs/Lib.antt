pub mod Shapes
pub mod Guides
pub mod Verdicts
