pub mod Lists
pub mod NextTrack
pub mod Openings
mod WriteRows
pub mod Goes
