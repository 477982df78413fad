pub mod Examples
pub mod Trees
