pub mod ActLists
pub mod PartLemmas
mod Rows
mod GroupRows
mod LegalRows
pub mod JournalLaws
pub mod HistoryLaws
pub mod LooseLemmas
