pub mod Judge
pub mod Read
