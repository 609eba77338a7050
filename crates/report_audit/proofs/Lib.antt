pub mod Rows
mod MoreRows
mod TextRows
pub mod LineLemmas
pub mod Auditors
pub mod AuditorLines
pub mod AuditorDues
pub mod NewAudits
pub mod OutlineLaw
pub mod AllDevices
pub mod AuditorPlaces
pub mod AuditorTasks
pub mod AuditorBehind
pub mod Cuts
pub mod Steps
pub mod DeckSizes
pub mod Whole
