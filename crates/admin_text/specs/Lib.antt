pub use Rattle.numerals.specs.Numerals
pub use Rattle.flow_prefix.specs.Reading as Cutting
pub use Rattle.disclosure_audit.specs.Lines as AuditLines
pub use Rattle.mediator_state.specs.FaultTexts as CallFaultTexts
pub use Rattle.replay_text.specs.Grammar as CallGrammar
pub use Rattle.replay_text.specs.Lines as CallLines
pub use Rattle.replay_text.specs.Answers as CallAnswers
pub mod Sayings
pub mod Grammar
pub mod Reading
pub mod Answers
