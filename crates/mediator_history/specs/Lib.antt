pub use Rattle.sequences.specs.Before
pub use Rattle.event_journal.specs.Sizes
pub use Rattle.ipfix_session.specs.Meaning as SessionMeaning
pub use Rattle.policy_text.specs.Policies
pub use Rattle.policy_text.specs.Parsing
pub use Rattle.flow_anonymize.specs.Disclosed as Disclosures
pub use Rattle.flow_aggregate.specs.Placing
pub use Rattle.flow_aggregate.specs.Running as RunningGroups
pub use Rattle.flow_aggregate.specs.Closing
pub use Rattle.disclosure_audit.specs.Lines
pub use Rattle.subscriber_stream.specs.Shapes
pub mod Numbers
pub mod Sessions
pub mod Subscriptions
pub mod LastEntries
pub mod Accepted
pub mod Counting
pub mod Disclosed
pub mod Auditing
pub mod Cuts
