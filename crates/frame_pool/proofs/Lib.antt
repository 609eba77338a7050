mod Order
mod NoteLists
mod Wants
