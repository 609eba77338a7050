pub mod Runs
pub mod SharedSlots
pub mod RanAfter
pub mod BothRules
pub mod Link
mod Calls
mod RoomLemmas
mod Rows
