pub mod Hears
pub mod Silent
pub mod Names
pub mod Firms
pub mod FirmStores
pub mod FirmWalk
pub mod FirmParts
pub mod FirmWrites
pub mod FirmCommands
pub mod FirmEvents
pub mod FirmLosses
pub mod Calm
pub mod Parts
pub mod Writes
pub mod Commands
pub mod Events
pub mod Sizes
pub mod Places
pub mod FirmRuns
pub mod FirmNumbers
pub mod Quiet
pub mod There
pub mod Mounts
pub mod FirmMounts
mod MessageRows
mod FirmRows
