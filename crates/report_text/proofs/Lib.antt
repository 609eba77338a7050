pub mod Spaced
mod KeptLines
mod Counted
