pub mod Graph
pub mod Placing
pub mod Constraint
pub mod Term
pub mod Order
pub mod Rule1
pub mod Cycle
pub mod Table
