pub use Rattle.sequences.specs.Octets
pub use Rattle.sequences.specs.Sequence
pub mod Variable
pub mod MessageFormat
