pub mod Lines
pub mod Histories
pub mod Places
pub mod ShownEvents
pub mod ShownDeeds
pub mod ShownRuns
pub mod SameDevices
pub mod PlainReports
