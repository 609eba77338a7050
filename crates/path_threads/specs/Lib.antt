pub mod Allowed
pub mod Places
pub mod Held
pub mod Walks
pub mod Asked
pub mod Rounds
pub mod Looks
