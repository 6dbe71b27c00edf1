pub use Rattle.mediator_state.specs.FaultTexts as StateFaultTexts
pub use Rattle.stream_meaning.specs.Means
pub use Rattle.subscriber_stream.specs.Calls as StreamCalls
pub use Rattle.event_journal.specs.Sizes
pub use Rattle.event_journal.specs.Room
pub use Rattle.ipfix_session.specs.Meaning as SessionMeaning
pub use Rattle.policy_text.specs.Parsing
pub use Rattle.subscriber_stream.specs.Parts
pub use Rattle.subscriber_stream.specs.Message
pub use Rattle.stream_meaning.specs.Served
pub use Rattle.mediator_history.specs.Sessions
pub use Rattle.mediator_history.specs.Subscriptions
pub use Rattle.mediator_history.specs.Accepted
pub use Rattle.mediator_history.specs.Counting
pub use Rattle.mediator_history.specs.Disclosed
pub use Rattle.mediator_history.specs.Auditing
pub use Rattle.mediator_history.specs.Cuts
pub use Rattle.mediator_state.specs.Planning
pub use Rattle.mediator_state.specs.Standing as StateStanding
pub use Rattle.mediator_state.specs.Accepting
pub use Rattle.mediator_state.specs.Calls as StateCalls
pub mod Limited
pub mod Mediation
pub mod Held
pub mod View
pub mod Sound
pub mod Calls
