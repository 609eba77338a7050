pub mod Puttings
pub mod Sent
pub mod Reached
pub mod FarImages
pub mod FarPuts
mod Rows
pub mod Keeping
pub mod Seats
pub mod Fitting
pub mod Mounts
pub mod Mirrors
pub mod Mirrored
pub mod Found
pub mod Looked
pub mod Copied
pub mod CopyRuns
