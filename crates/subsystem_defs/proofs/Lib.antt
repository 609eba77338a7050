pub mod Stand
pub mod Runs
pub mod Unrefused
mod Rows
