pub mod FirstFaults
mod Devices
mod Sound
mod Works
mod Lines
mod Decks
mod Converses
mod ShownPasts
mod ShownLines
mod ShownWork
mod Telling
mod Refusals
mod SoundPasts
mod GoodLines
mod GoodTexts
mod ToldTexts
pub mod own
