pub mod Turning
pub mod Feeding
