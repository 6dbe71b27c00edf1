pub mod Absent
pub mod Failures
pub mod Status
pub mod HexText
pub mod Runs
