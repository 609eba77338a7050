pub mod TwinLook
pub mod TwinPeek
pub mod LentPeek
pub mod Talks
pub mod Hears
pub mod Seen
pub mod Own
pub mod Finds
pub mod Leaves
pub mod Keeps
pub mod EitherWay
mod LookRows
