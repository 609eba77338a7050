pub mod KeptTracks
pub mod KeptJournals
pub mod AcknowledgedKept
pub mod KeptRuns
pub mod ActsNoted
pub mod FirmActs
pub mod HistoriesMade
pub mod Bringing
pub mod OriginRuns
pub mod FreshItems
mod PromiseRows
