pub mod HistoryShown
pub mod OneDevice
pub mod ActsCome
pub mod Quiet
pub mod Ended
mod ReportText
pub mod Showing
mod ToldAs
pub mod Stand
pub mod Reports
mod Rows
mod shown
