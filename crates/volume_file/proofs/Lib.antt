pub mod EmptyImages
pub mod Fields
pub mod Told
pub mod Through
pub mod ReadSo
