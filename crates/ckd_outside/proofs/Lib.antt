pub mod Written
pub mod Lines
pub mod Calls
pub mod HexLemmas
pub mod DecimalLengths
pub mod Blocks
