pub mod Fits
pub mod Revisions
pub mod Applied
pub mod Again
pub mod InOrder
pub mod OneMore
pub mod Reduced
pub mod Units
