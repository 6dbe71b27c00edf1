pub use Rattle.mediator_calls.specs.Mediation
pub use Rattle.mediator_core.specs.Runs
pub use Rattle.history_verify.specs.Legal
pub use Rattle.history_verify.specs.Answers
pub mod Legality
