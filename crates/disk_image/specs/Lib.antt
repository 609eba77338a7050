pub mod File
pub mod Opening
pub mod Calls
pub mod Image
pub mod Volume
pub mod Storing
