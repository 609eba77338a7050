pub mod Openings
pub mod Telling
pub mod Listed
pub mod Stored
pub mod Complete
