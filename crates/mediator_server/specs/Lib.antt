pub use Rattle.octet_io.specs.Written
pub use Rattle.octet_io.specs.Moments
pub use Rattle.ipfix_message.specs.Framing
pub use Rattle.subscriber_stream.specs.Parts
pub use Rattle.subscriber_stream.specs.Message
pub use Rattle.stream_meaning.specs.Served
pub use Rattle.shared_mediator.specs.Locked
pub use Rattle.shared_mediator.specs.Handles
pub use Rattle.shared_mediator.specs.Closing
pub use Rattle.admin_text.specs.Sayings
pub use Rattle.admin_text.specs.Grammar as CommandGrammar
pub use Rattle.admin_text.specs.Reading as CommandReading
pub use Rattle.admin_text.specs.Answers as AdminAnswers
pub use Rattle.mediator_connections.specs.Faults
pub use Rattle.mediator_connections.specs.FaultTexts as ServeFaultTexts
pub use Rattle.mediator_connections.specs.Serving
pub use Rattle.mediator_connections.specs.Delivering
pub use Rattle.mediator_connections.specs.CommandInput
pub use Rattle.mediator_connections.specs.Answering
pub mod FaultTexts
pub mod Listening
