pub use Rattle.mediator_calls.specs.Limited
pub mod Names
pub mod Results
pub mod Asked
pub mod Values
pub mod Reading
pub mod Faults
pub mod Laws
