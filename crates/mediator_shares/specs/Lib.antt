pub use Rattle.mediator_tables.specs.SubscriptionTable
pub use Rattle.flow_anonymize.specs.Disclosed as Disclosures
pub use Rattle.mediator_history.specs.Disclosed
pub use Rattle.mediator_history.specs.Auditing
pub use Rattle.flow_aggregate.specs.Counts
pub use Rattle.mediator_tables.specs.Adding as Tallies
pub use Rattle.mediator_history.specs.Counting
pub use Rattle.disclosure_audit.specs.Noting
pub use Rattle.rule_table.specs.Cuts
pub use Rattle.flow_anonymize.specs.Plans
pub use Rattle.flow_anonymize.specs.Classes
pub mod Alike
pub mod InForce
pub mod Sharing
pub mod Judges
pub mod Deciding
pub mod Adding
pub mod Terms
pub mod Judgements
pub mod Totals
