pub mod Drawn
pub mod Answers
