pub mod Devices
pub mod DeckTexts
pub mod Saving
pub mod Stepping
