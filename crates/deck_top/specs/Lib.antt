pub mod Bays
pub mod Handed
pub mod Answers
pub mod Summing
pub mod Facts
