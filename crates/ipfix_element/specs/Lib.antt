pub mod Element
pub mod Registry
pub mod Kinds
pub mod Names
pub mod Lines
