pub mod FirmWrites
pub mod Written
pub mod Telling
