pub mod HistoryWrites
pub mod Tells
pub mod SaidStores
pub mod SaidParts
pub mod SaidWrites
pub mod SaidCommands
pub mod SaidEvents
pub mod Made
pub mod WrittenEvents
pub mod StillPlain
pub mod WrittenRuns
pub mod WrittenSoFar
pub mod OneNumber
pub mod DrivenWrites
mod FirmWriteRows
mod TellingRows
