pub mod Texts
pub mod Copying
pub mod Mirroring
pub mod Standing
pub mod MirrorStanding
pub mod Making
pub mod Answers
