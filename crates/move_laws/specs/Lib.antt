pub mod Exactly
pub mod Chosen
