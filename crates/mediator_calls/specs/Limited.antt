-- Which limits a mediator may have.
use Rattle.std.specs.Prelude.{ℕ, ◌≤◌}
use Rattle.subscriber_stream.specs.declared.limits.TheConstants.{MOST_QUEUE, MOST_SHAPES}
use Rattle.disclosure_audit.specs.declared.audit.TheConstants.{MOST_ENTRIES as MOST_AUDITED}
use Rattle.event_journal.specs.declared.limits.TheConstants.{MOST_ENTRIES, MOST_OCTETS}
use Rattle.mediator_state.specs.declared.fault.Fault.{Fault}
use Rattle.mediator_state.specs.declared.fault.Fault.TheVariants.{BadLimits, OutOfMemory}
use Rattle.mediator_calls.specs.declared.limits.Limits.{Limits}

-- each is at least 1, and at most so much
pub record AreAllowed (limits : Limits) : Type 0 where
  pub some_queue : 1 ≤ limits.queue
  pub most_queue : limits.queue ≤ MOST_QUEUE
  pub some_shapes : 1 ≤ limits.shapes
  pub most_shapes : limits.shapes ≤ MOST_SHAPES
  pub some_audit : 1 ≤ limits.audit
  pub most_audit : limits.audit ≤ MOST_AUDITED
  pub some_entries : 1 ≤ limits.entries
  pub most_entries : limits.entries ≤ MOST_ENTRIES
  pub some_octets : 1 ≤ limits.octets
  pub most_octets : limits.octets ≤ MOST_OCTETS

-- the limits are out of their ranges, or memory ran out where they aren't
abbrev pub RefusesLimits : Fault → Limits → Type 0
RefusesLimits BadLimits limits = AreAllowed limits → ⊥
RefusesLimits OutOfMemory limits = AreAllowed limits
RefusesLimits _ limits = ⊥
