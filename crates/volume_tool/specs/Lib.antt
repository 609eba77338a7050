pub mod List
pub mod Written
pub mod Save
pub mod Answers
