pub mod Given
pub mod List
pub mod Faults
