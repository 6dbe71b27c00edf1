pub mod Lines
pub mod Noting
pub mod Stretching
pub mod Queue
pub mod Chunks
pub mod Kept
pub mod Laws
pub mod Listed
