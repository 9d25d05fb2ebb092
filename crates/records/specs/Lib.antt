pub mod Record
pub mod Answers
