pub use Rattle.ipfix_session.specs.Keeping
pub use Rattle.ipfix_session.specs.Standing as SessionStanding
pub use Rattle.ipfix_session.specs.ReadAhead
pub use Rattle.subscriber_stream.specs.Standing as StreamStanding
pub use Rattle.subscriber_stream.specs.Calls
pub use Rattle.flow_aggregate.specs.Groups
pub use Rattle.flow_aggregate.specs.Running
pub use Rattle.flow_aggregate.specs.Counts
pub use Rattle.flow_aggregate.specs.Additions
pub use Rattle.flow_aggregate.specs.Closing
pub use Rattle.policy_text.specs.Naming as NameTexts
pub mod SessionTable
pub mod GroupTable
pub mod Adding
pub mod SubscriptionTable
pub mod Naming
pub mod Sessions
