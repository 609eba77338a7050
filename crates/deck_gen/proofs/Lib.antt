pub mod Lists
pub mod KindWords
pub mod Good
pub mod Sizes
mod Rows
