pub mod Appending
pub mod Coming
pub mod Places
pub mod Forgetting
pub mod Refusing
pub mod Telling
pub mod Values
