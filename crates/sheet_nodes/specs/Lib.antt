pub mod Table
pub mod Hold
