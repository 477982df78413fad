pub mod Judges
pub mod Whole
pub mod Answers
