pub mod Faults
pub mod Reading
pub mod Found
pub mod Verifying
