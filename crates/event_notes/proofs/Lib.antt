pub mod Counted
pub mod Loosely
pub mod OwedEntries
pub mod Paid
