pub mod Written
pub mod Texts
pub mod Reading
pub mod Storing
pub mod Answers
