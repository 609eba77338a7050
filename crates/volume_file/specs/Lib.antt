pub mod File
pub mod Loading
pub mod Answers
