pub mod Keeping
pub mod Copying
pub mod Sessions
pub mod CopyRun
