pub mod Along
pub mod Keeping
pub mod Copies
pub mod Images
pub mod Causes
pub mod Fronts
pub mod Begun
pub mod Calls
