pub use Rattle.mediator_offline.specs.Failing
pub use Rattle.mediator_offline.specs.Lines
pub mod Recording
pub mod Holding
