pub mod Kept
pub mod Happened
pub mod Owning
