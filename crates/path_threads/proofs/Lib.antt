pub mod Walking
pub mod Setting
pub mod Holding
pub mod Parting
pub mod Sparing
