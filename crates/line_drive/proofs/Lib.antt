pub mod Forgets
pub mod Happened
pub mod Settles
pub mod Hearings
pub mod Kept
pub mod OrderEnds
pub mod Given
pub mod Driving
pub mod Same
pub mod Alike
mod Rows
