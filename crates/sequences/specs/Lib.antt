pub mod Octets
pub mod Sequence
pub mod Before
pub mod Options
pub mod Results
