pub mod Owner
pub mod Table
pub mod Records
