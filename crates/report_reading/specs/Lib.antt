pub mod Places
pub mod Answers
pub mod Reading
pub mod Ranges
