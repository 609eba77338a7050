pub mod Bits
pub mod Marked
pub mod Sparse
pub mod Table
pub mod Tracks
