pub use Rattle.octet_io.specs.Written
pub use Rattle.octet_io.specs.Moments
pub use Rattle.ipfix_message.specs.Framing
pub use Rattle.subscriber_stream.specs.Parts
pub use Rattle.subscriber_stream.specs.Message
pub use Rattle.stream_meaning.specs.Served
pub use Rattle.shared_mediator.specs.Locked
pub use Rattle.shared_mediator.specs.Handles
pub use Rattle.admin_text.specs.Sayings
pub use Rattle.admin_text.specs.Grammar as CommandGrammar
pub use Rattle.admin_text.specs.Reading as CommandReading
pub use Rattle.admin_text.specs.Answers as AdminAnswers
pub mod Faults
pub mod FaultTexts
pub mod Serving
pub mod Delivering
pub mod CommandInput
pub mod Answering
