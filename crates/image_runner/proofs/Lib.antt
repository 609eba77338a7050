mod Planned
mod Written
mod Told
mod Names
mod Devices
mod Begun
