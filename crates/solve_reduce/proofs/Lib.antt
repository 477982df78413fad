pub mod Staying
pub mod Choices
pub mod Settling
pub mod Tables
pub mod Rises
pub mod Found
