pub use Rattle.sequences.specs.Before
pub mod Sizes
pub mod Spelled
pub mod Room
pub mod LastEdit
pub mod Kept
pub mod Counted
pub mod Laws
