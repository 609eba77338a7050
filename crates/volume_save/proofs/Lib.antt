pub mod Devices
pub mod DeckTexts
pub mod InRun
pub mod Images
pub mod SmallRuns
pub mod Stepping
