pub mod Tables
pub mod Free
