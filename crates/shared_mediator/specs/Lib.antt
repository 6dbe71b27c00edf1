pub use Rattle.mediator_calls.specs.Limited
pub use Rattle.event_journal.specs.Sizes
pub use Rattle.event_journal.specs.Room
pub use Rattle.event_journal.specs.Kept
pub use Rattle.ipfix_session.specs.Meaning as SessionMeaning
pub use Rattle.policy_text.specs.Parsing
pub use Rattle.subscriber_stream.specs.Parts
pub use Rattle.subscriber_stream.specs.Message
pub use Rattle.subscriber_stream.specs.Calls as StreamCalls
pub use Rattle.stream_meaning.specs.Served
pub use Rattle.stream_meaning.specs.Means
pub use Rattle.mediator_history.specs.Numbers
pub use Rattle.mediator_history.specs.Sessions
pub use Rattle.mediator_history.specs.Subscriptions
pub use Rattle.mediator_history.specs.Accepted
pub use Rattle.mediator_history.specs.Counting
pub use Rattle.mediator_history.specs.Disclosed
pub use Rattle.mediator_history.specs.Auditing
pub use Rattle.mediator_history.specs.Cuts
pub use Rattle.mediator_state.specs.FaultTexts as StateFaultTexts
pub use Rattle.mediator_state.specs.Planning
pub use Rattle.mediator_state.specs.Standing as StateStanding
pub use Rattle.mediator_state.specs.Accepting
pub use Rattle.mediator_state.specs.Calls as StateCalls
pub use Rattle.mediator_calls.specs.Mediation
pub use Rattle.mediator_calls.specs.Sound
pub use Rattle.mediator_calls.specs.Calls as MediatorCalls
pub mod FaultTexts
pub mod Counted
pub mod Handing
pub mod Answered
pub mod Receipts
pub mod Marking
pub mod Locked
pub mod Keeping
pub mod Handles
pub mod Lending
pub mod Calls
pub mod Closing
