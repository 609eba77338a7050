pub mod Image
pub mod Packed
pub mod Reading
pub mod Room
pub mod TrackRoom
