pub use Rattle.numerals.specs.Numerals
pub use Rattle.flow_prefix.specs.Reading as Cutting
pub use Rattle.policy_text.specs.FaultTexts as PolicyFaultTexts
pub use Rattle.disclosure_audit.specs.Lines as AuditLines
pub use Rattle.mediator_state.specs.FaultTexts as CallFaultTexts
pub mod Words
pub mod Sayings
pub mod LineEnds
pub mod Lines
pub mod Lists
pub mod Grammar
pub mod Answers
pub mod FaultTexts
