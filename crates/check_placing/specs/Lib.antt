pub mod Tests
pub mod Guide
pub mod Answered
