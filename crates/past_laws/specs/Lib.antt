pub mod PutAway
pub mod WithPast
pub mod Forgotten
