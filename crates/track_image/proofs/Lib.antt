pub mod Loop
pub mod Fields
pub mod Tracks
pub mod Sizes
pub mod Places
pub mod Packs
pub mod Rooms
pub mod TrackRooms
