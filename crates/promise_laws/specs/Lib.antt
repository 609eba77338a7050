pub mod Kept
pub mod Origins
