pub mod Driven
pub mod Staging
pub mod Ending
pub mod Recalling
