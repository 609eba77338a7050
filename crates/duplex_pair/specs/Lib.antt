pub mod Sides
pub mod Volumes
