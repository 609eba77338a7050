pub mod Within
pub mod Moves
pub mod Shells
pub mod Reads
pub mod Writes
pub mod Events
