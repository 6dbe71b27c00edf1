-- What the records of one message give to each subscription that is served, what they add to its aggregates, and what is noted of
-- each: the order of the notes is that of the audit, by record and then by subscription. All of this is this project's own rule.
use Rattle.std.specs.Prelude.{ℕ, List, [], ◌∷◌, map, slice_get}
use Rattle.std.specs.List.{flat_map, enumerate_from}
use Rattle.ipfix_template.specs.DataRecord.{DataRecord}
use Rattle.flow_anonymize.specs.Outcome.{Outcome, Decision, passed}
use Rattle.flow_anonymize.specs.Disclosed.{disclosure_of}
use Rattle.flow_aggregate.specs.Counts.{Count, count_of}
use Rattle.disclosure_audit.specs.declared.entry.What.{What}
use Rattle.disclosure_audit.specs.declared.entry.What.TheVariants as what
use Rattle.policy_text.specs.Policies.{Aggregate}
use Rattle.flow_anonymize.specs.declared.disclosure.Disclosure.TheVariants.{Passed, Aggregated, Withheld}
use Rattle.flow_aggregate.specs.Groups.{Sample}
use Rattle.mediator_history.specs.Counting.{counts, counted_in, timing_at}
use Rattle.mediator_history.specs.Auditing.{kept_back, removed_of, told_of}
use Rattle.mediator_shares.specs.InForce.{InForce}
use Rattle.mediator_tables.specs.declared.served.Served.{Served}
use Rattle.disclosure_audit.specs.declared.entry.Note.{Note}

-- what becomes of a record for a subscriber of this name
abbrev pub outcome_by : ℕ → InForce → List ℕ → DataRecord → Outcome
outcome_by domain f name r = disclosure_of name domain r f.policy.rules

-- ---- what each gets: for a subscriber of a name, and a record, some items

-- what these records give to one that is served
abbrev pub share_by : {X : Type 0} → (List ℕ → DataRecord → List X) → List DataRecord → Served → ℕ × List X
share_by gives records who = (who.sub, flat_map (gives who.name.now) records)

-- the record that passes, as it is disclosed
abbrev pub given_by : ℕ → InForce → List ℕ → DataRecord → List DataRecord
given_by domain f name r = passed (outcome_by domain f name r)

-- what it adds to an aggregate
abbrev pub added_by : ℕ → InForce → List ℕ → DataRecord → List Count
added_by domain f name r = map count_of (counts f.policy.aggregates f.clock r (outcome_by domain f name r))

-- before the first record
abbrev pub blank : {X : Type 0} → Served → ℕ × List X
blank who = (who.sub, [])

-- the share of a subscription
abbrev pub share_of : ℕ → InForce → List DataRecord → Served → ℕ × List DataRecord
share_of domain f records who = share_by (given_by domain f) records who

abbrev pub tally_of : ℕ → InForce → List DataRecord → Served → ℕ × List Count
tally_of domain f records who = share_by (added_by domain f) records who

-- the share of each, in their order
abbrev pub shares_of : ℕ → InForce → List DataRecord → List Served → List (ℕ × List DataRecord)
shares_of domain f records served = map (share_of domain f records) served

abbrev pub tallies_of : ℕ → InForce → List DataRecord → List Served → List (ℕ × List Count)
tallies_of domain f records served = map (tally_of domain f records) served

-- ---- by what was decided of a record, for which what is handed on doesn't matter

abbrev pub kept_back_by : List Aggregate → ℕ → DataRecord → Decision → List What
kept_back_by aggregates clock r (Passed kept removed) = removed_of removed
kept_back_by aggregates clock r (Aggregated rule place) = told_of rule (timing_at aggregates place r clock) ∷ []
kept_back_by aggregates clock r (Withheld rule reason) = what.Withheld rule reason ∷ []

abbrev pub counts_by : List Aggregate → ℕ → DataRecord → Decision → List Sample
counts_by aggregates clock r (Aggregated rule place) = counted_in (slice_get aggregates place) r (timing_at aggregates place r clock)
counts_by aggregates clock r (Passed kept removed) = []
counts_by aggregates clock r (Withheld rule reason) = []

-- ---- what is noted

abbrev pub note_of : ℕ → ℕ → What → Note
note_of index sub what = record { index = index; sub = sub; what = what }

-- what is kept back of a record from a subscriber of this name
abbrev pub kept_by : ℕ → InForce → List ℕ → DataRecord → List What
kept_by domain f name r = kept_back f.policy.aggregates f.clock r (outcome_by domain f name r)

-- what is kept back of the record with this index from one subscription
abbrev pub notes_on : ℕ → InForce → ℕ × DataRecord → Served → List Note
notes_on domain f r who = map (note_of r.0 who.sub) (kept_by domain f who.name.now r.1)

-- and from each
abbrev pub noted_of_each : ℕ → InForce → List Served → ℕ × DataRecord → List Note
noted_of_each domain f served r = flat_map (notes_on domain f r) served

-- what is kept back of the records, by index and then by subscription
abbrev pub notes_of : ℕ → InForce → List DataRecord → List Served → List Note
notes_of domain f records served = flat_map (noted_of_each domain f served) (enumerate_from 0 records)
