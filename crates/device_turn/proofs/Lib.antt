pub mod Views
pub mod Worlds
pub mod Members
pub mod Moves
pub mod Zips
