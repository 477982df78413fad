pub mod Owned
pub mod GraphRecords
pub mod Storing
pub mod Answers
