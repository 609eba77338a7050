pub mod Listed
pub mod Complete
pub mod SaveComplete
