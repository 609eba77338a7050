pub mod Encoding
pub mod Wellformed
