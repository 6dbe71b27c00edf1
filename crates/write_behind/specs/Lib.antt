pub mod Passing
pub mod Holding
