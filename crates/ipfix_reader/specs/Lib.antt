pub use Rattle.ipfix_message.specs.Framing
pub use Rattle.ipfix_message.specs.FramerState
pub mod Intake
pub mod Texts
