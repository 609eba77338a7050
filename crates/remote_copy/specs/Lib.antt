pub mod Linking
pub mod FarVolume
pub mod Sending
pub mod Following
pub mod Mirroring
pub mod Mirrored
pub mod Copies
