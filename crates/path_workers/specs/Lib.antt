pub mod Planned
pub mod Keeping
pub mod Visits
pub mod Comes
pub mod Turned
pub mod Spare
pub mod Ordered
