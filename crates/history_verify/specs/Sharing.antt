-- What an entry gives to subscriptions, as shares.
use Rattle.std.specs.Prelude.{◌≡◌, ◌≢◌, ℕ, Bool, if◌then◌else◌, List, [], map, take, slice_get, Option, Some, None, IsSomeAnd}
use Rattle.std.specs.List.{AllByRecursion}
use Rattle.ipfix_template.specs.DataRecord.{DataRecord}
use Rattle.flow_aggregate.specs.Counts.{count_of}
use Rattle.event_journal.specs.declared.entry.Entry.{Entry}
use Rattle.mediator_history.specs.Counting.{counted_at}
use Rattle.mediator_history.specs.Disclosed.{given_at}
use Rattle.mediator_history.specs.Auditing.{audit_at}
use Rattle.mediator_tables.specs.SubscriptionTable.{given_to, shown}
use Rattle.mediator_tables.specs.Adding.{tallied, NoneTwice, added_to}
use Rattle.history_verify.specs.declared.judged.Judged.{Judged}

-- shares give each subscription what the entry gives it behind a history
abbrev pub GiveAll : List Entry → Entry → List (ℕ × List DataRecord) → Type 0
GiveAll h entry shares = (sub : ℕ) → given_to sub shares ≡ given_at sub h entry

-- what is given, counts and, where that is wanted, is kept back is what the entry brings behind the history
pub record IsJudgedEntry (wanted : Bool) (h : List Entry) (entry : Entry) (j : Judged) : Type 0 where
  pub gives : GiveAll h entry (map shown j.shares.items)
  pub adds : (sub : ℕ) → added_to sub (map tallied j.tallies.items) ≡ map count_of (counted_at sub h entry)
  pub apart : NoneTwice (map tallied j.tallies.items)
  pub entries_are : j.entries.items ≡ (if wanted then audit_at h entry else [])

-- the first share without a record is at this place, or none is
abbrev pub IsFirstEmptyShare : List (ℕ × List DataRecord) → Option ℕ → Type 0
IsFirstEmptyShare shares None = AllByRecursion (λ s. s.1 ≢ []) shares
IsFirstEmptyShare shares (Some place) = AllByRecursion (λ s. s.1 ≢ []) (take place shares) × IsSomeAnd (slice_get shares place) (λ s. s.1 ≡ [])
