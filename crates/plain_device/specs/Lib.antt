pub mod Volume
pub mod Acted
pub mod Between
pub mod Looking
pub mod Parts
