pub mod Fit
pub mod Gives
pub mod Patch
pub mod Patches
pub mod Edits
pub mod Room
