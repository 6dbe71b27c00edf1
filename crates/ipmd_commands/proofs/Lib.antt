pub mod Inputs
pub mod Lines
pub mod Telling
pub mod Naming
