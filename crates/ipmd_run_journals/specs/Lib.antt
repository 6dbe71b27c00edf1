pub mod Numbering
pub mod Keeping
