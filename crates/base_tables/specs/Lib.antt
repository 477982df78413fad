pub mod Rows
pub mod Tables
pub mod Trees
