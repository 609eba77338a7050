pub mod Stand
pub mod Runs
pub mod SecondRuns
pub mod MarkRuns
mod Rows
pub mod Own
mod OwnRows
mod SoundRows
mod Held
mod ContentRows
mod SideRows
mod TransferRows
mod BetweenRows
mod PledgeRows
mod PairRows
