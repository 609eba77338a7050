pub mod Messages
pub mod Keeping
pub mod Quiet
pub mod Firmness
