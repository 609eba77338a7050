pub mod Draws
pub mod Choices
pub mod Programs
pub mod Generated
