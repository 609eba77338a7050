pub mod Planned
pub mod Words
pub mod Racks
pub mod Mounting
pub mod Texts
pub mod Answers
