-- What a mediator is to its callers.
use Rattle.std.specs.Prelude.{ℕ, Bool, List, [], ◌∷◌, length, filter, drop, if◌then◌else◌, ◌==◌}
use Rattle.std.specs.List.{flat_map}
use Rattle.subscriber_stream.specs.declared.limits.StreamLimits.{StreamLimits}
use Rattle.subscriber_stream.specs.Parts.{parts, records_of_parts}
use Rattle.disclosure_audit.specs.declared.entry.AuditEntry.{AuditEntry}
use Rattle.event_journal.specs.declared.entry.Entry.{Entry}
use Rattle.event_journal.specs.Room.{JournalLimits}
use Rattle.mediator_history.specs.Subscriptions.{is_live, subscribed_in}
use Rattle.mediator_history.specs.Disclosed.{disclosed}
use Rattle.mediator_history.specs.Auditing.{audit_list}
use Rattle.mediator_calls.specs.declared.limits.Limits.{Limits}

-- a live subscription, and the place up to which the parts of what is disclosed to it were handed out
pub record Place : Type 0 where
  pub sub : ℕ
  pub reached : ℕ

-- what was accepted, the places of the live subscriptions, how many audit entries were drained, and the limits
pub record Mediation : Type 0 where
  pub history : List Entry
  pub places : List Place
  pub drained : ℕ
  pub limits : Limits

-- before any call
abbrev pub started : Limits → Mediation
started limits = record { history = []; places = []; drained = 0; limits = limits }

-- the live subscriptions, in the order in which they began
abbrev pub live : List Entry → List ℕ
live h = filter (λ sub. is_live sub h) (flat_map subscribed_in h)

abbrev pub reached_among : ℕ → List Place → ℕ
reached_among sub [] = 0
reached_among sub (place ∷ places) = if place.sub == sub then place.reached else reached_among sub places

-- the place of a live subscription
abbrev pub place_at : Mediation → ℕ → ℕ
place_at m sub = reached_among sub m.places

-- how many records wait for it
abbrev pub waiting_at : Mediation → ℕ → ℕ
waiting_at m sub = length (records_of_parts (drop (place_at m sub) (parts (disclosed sub m.history))))

-- the audit entries that wait
abbrev pub noted_at : Mediation → List AuditEntry
noted_at m = drop m.drained (audit_list m.history)

-- the limits of each subscription's stream
abbrev pub stream_limits : Limits → StreamLimits
stream_limits l = record { queue = l.queue; shapes = l.shapes }

-- the limits of the journal
abbrev pub journal_limits : Limits → JournalLimits
journal_limits l = record { entries = l.entries; octets = l.octets }
