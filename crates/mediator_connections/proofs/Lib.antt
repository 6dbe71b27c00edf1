pub mod Offering
pub mod Reading
pub mod Sending
pub mod Chunking
pub mod Commands
pub mod Exchanging
