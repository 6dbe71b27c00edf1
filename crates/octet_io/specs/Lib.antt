pub mod Failing
pub mod Written
pub mod Device
pub mod Moments
