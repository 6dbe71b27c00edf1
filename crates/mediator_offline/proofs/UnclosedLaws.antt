-- A run makes no advance of the clock: no group closes, and no record is late.
use Rattle.std.proofs.Common.{◌≡◌, ℕ, zero, suc, ◌≤◌, ◌^◌, Bool, true, false, cond, List, [], ◌∷◌, ◌++◌, map, Option, Some, None, Result, Ok, Err, refl, sym, ap, ◌∙◌, subst, arith}
use Rattle.std.specs.Prelude.{◌≢◌, filter, fold, nat_lt, nat_le, unwrap_or}
use Rattle.std.specs.List.{flat_map, AllByRecursion}
use Rattle.std.proofs.lemmas.Bool.{leb-true}
use Rattle.std.proofs.lemmas.List.Concat.{flat_map-cons}
use Rattle.sequences.specs.Before.{each_after, last_of, HasNone}
use Rattle.sequences.proofs.BeforeLaws.{last_of-none}
use Rattle.sequences.proofs.ListLaws.{AllByRecursion-append}
use Rattle.ipfix_template.specs.DataRecord.{DataRecord}
use Rattle.policy_text.specs.Words.{lines_of}
use Rattle.policy_text.specs.Policies.{PolicyMeaning as Policy, Aggregate, nothing as no_policy}
use Rattle.policy_text.specs.Parsing.{policy_of}
use Rattle.policy_text.specs.Grammar.{AreAggregates}
use Rattle.policy_text.specs.declared.fault.Fault.{Fault as PolicyFault}
use Rattle.policy_text.proofs.OneFaultLaws.{spelled_kept}
use Rattle.policy_text.proofs.SpellLaws.{policy_of-found}
use Rattle.disclosure_audit.specs.declared.entry.RemovedField.{RemovedField}
use Rattle.disclosure_audit.specs.declared.entry.What.{What}
use Rattle.disclosure_audit.specs.declared.entry.What.TheVariants as what
use Rattle.disclosure_audit.specs.declared.reason.Reason.{Reason}
use Rattle.disclosure_audit.specs.declared.reason.Reason.TheVariants as because
use Rattle.flow_anonymize.specs.declared.disclosure.Disclosure.TheVariants.{Passed, Aggregated, Withheld}
use Rattle.flow_anonymize.specs.Outcome.{Outcome}
use Rattle.flow_anonymize.specs.Reasons.{IsOfRules, IsByRules}
use Rattle.flow_anonymize.proofs.ReasonLaws.{reasons_are_of_rules}
use Rattle.flow_aggregate.specs.declared.timing.Timing.{Timing}
use Rattle.flow_aggregate.specs.declared.timing.Timing.TheVariants.{Placed, NoTime, NoKey, Late}
use Rattle.flow_aggregate.specs.Placing.{flow_start, interval_start, closes_at, has_key, timing_of, timing_at as placed_at}
use Rattle.event_journal.specs.declared.entry.Entry.{Entry}
use Rattle.event_journal.specs.declared.entry.Entry.TheVariants.{Message, Edit, Advance, Cut}
use Rattle.mediator_history.specs.Subscriptions.{policy_or_none, policy_from, policy_in_force, name_of, served}
use Rattle.mediator_history.specs.Accepted.{AcceptedRecord, accepted_at}
use Rattle.mediator_history.specs.Counting.{clock_in, timing_at, outcome_for}
use Rattle.mediator_history.specs.Disclosed.{given_at}
use Rattle.mediator_history.specs.Auditing.{removed_of, told_of, kept_back, audit_entry, audit_of, audit_at, audit_list}
use Rattle.mediator_history.specs.Cuts.{is_cut_by}
use Rattle.mediator_offline.specs.declared.job.OfflineJob.{OfflineJob}
use Rattle.mediator_offline.specs.Offline.{first_entries, offline_stream_limits, next_message, cuts_by, after_message, history_of, disclosed_by}
use Rattle.mediator_offline.specs.Unclosed.{passing_at, passing_by, IsNotLate}

-- ---- the clock

none_cut : (subs : List ℕ) → HasNone clock_in (map Cut subs)
none_cut [] = tt
none_cut (sub ∷ subs) = (refl, none_cut subs)

none_more : (h : List Entry) (octets : List ℕ) → HasNone clock_in h → HasNone clock_in (after_message h octets)
none_more h octets none =
    AllByRecursion-append (λ e. clock_in e ≡ None) h (cuts_by h octets ++ next_message h octets ∷ []) none
    (AllByRecursion-append (λ e. clock_in e ≡ None) (cuts_by h octets) (next_message h octets ∷ []) (none_cut (filter (is_cut_by offline_stream_limits h (next_message h octets) (λ sub. 0)) (served h))) (refl, tt))

none_after : (messages : List (List ℕ)) (h : List Entry) → HasNone clock_in h → HasNone clock_in (fold after_message h messages)
none_after [] h none = none
none_after (octets ∷ messages) h none = none_after messages (after_message h octets) (none_more h octets none)

pub no_advance : (job : OfflineJob) (messages : List (List ℕ)) → HasNone clock_in (history_of job messages)
no_advance job messages = none_after messages (first_entries job) (refl, (refl, (refl, tt)))

-- ---- what passes

given_passes : (before : List Entry) (e : Entry) → clock_in e ≡ None → given_at 1 before e ≡ passing_at before e
given_passes before (Advance t) none = absurd (no none)
  where
    no : Some t ≡ None → ⊥
    no is = absurd cc
given_passes before _ none = refl

each_passes : (before entries : List Entry) → HasNone clock_in entries → each_after (given_at 1) before entries ≡ each_after passing_at before entries
each_passes before [] none = refl
each_passes before (e ∷ entries) none =
    ap (λ (rs : List DataRecord). rs ++ each_after (given_at 1) (before ++ e ∷ []) entries) (given_passes before e none.0)
    ∙ ap (λ (rs : List DataRecord). passing_at before e ++ rs) (each_passes (before ++ e ∷ []) entries none.1)

pub disclosed_passes : (job : OfflineJob) (messages : List (List ℕ)) → disclosed_by job messages ≡ passing_by job messages
disclosed_passes job messages = each_passes [] (history_of job messages) (no_advance job messages)

-- ---- the intervals of a policy in force

abbrev HaveIntervals : List Aggregate → Type 0
HaveIntervals aggregates = AllByRecursion (λ a. 1 ≤ a.interval) aggregates

intervals_of : (before aggregates : List Aggregate) → AreAggregates before aggregates → HaveIntervals aggregates
intervals_of before [] are = tt
intervals_of before (a ∷ aggregates) are = (are.0.ranged.interval_low, intervals_of (before ++ a ∷ []) aggregates are.1)

edited_lasts : (e : Entry) (policy : Policy) → policy_from e ≡ Some policy → HaveIntervals policy.aggregates
edited_lasts (Edit text) policy is = by (policy_of text) refl is where
  by : (r : Result Policy PolicyFault) → policy_of text ≡ r → policy_or_none r ≡ Some policy → HaveIntervals policy.aggregates
  by (Ok q) read is = subst (λ p. HaveIntervals p.aggregates) same (intervals_of [] q.aggregates (spelled_kept q (lines_of text) (policy_of-found text q read)).aggregates) where
    same : q ≡ policy
    same = cc
  by (Err why) read is = absurd cc
edited_lasts _ policy is = absurd cc

last_lasts : (start : Policy) (h : List Entry) → HaveIntervals start.aggregates → HaveIntervals (last_of policy_from start h).aggregates
last_lasts start [] lasts = lasts
last_lasts start (e ∷ h) lasts = last_lasts (unwrap_or (policy_from e) start) h (by (policy_from e) refl) where
  by : (o : Option Policy) → policy_from e ≡ o → HaveIntervals (unwrap_or o start).aggregates
  by None is = lasts
  by (Some policy) is = edited_lasts e policy is

intervals_in_force : (h : List Entry) → HaveIntervals (policy_in_force h).aggregates
intervals_in_force h = last_lasts no_policy h tt

-- ---- no record is late

early_at : (a : Aggregate) (r : DataRecord) (time : Option ℕ) → 1 ≤ a.interval → placed_at a r 0 time ≢ Late
early_at a r None lasts late = absurd cc
early_at a r (Some time) lasts late = by (nat_lt time (2 ^ 62)) (has_key a.key r) (nat_le (closes_at a (interval_start a time)) 0) refl late where
  by : (early keyed due : Bool) → nat_le (closes_at a (interval_start a time)) 0 ≡ due → cond early (cond keyed (cond due Late (Placed (interval_start a time))) NoKey) NoTime ≡ Late → ⊥
  by true true true is late = absurd (omega (arith, lasts, leb-true _ _ is))
  by true true false is late = absurd cc
  by true false due is late = absurd cc
  by false keyed due is late = absurd cc

timed_early : (a : Aggregate) (r : DataRecord) → 1 ≤ a.interval → timing_of a r 0 ≢ Late
unfolding timing_of
timed_early a r lasts = early_at a r (flow_start r) lasts

timing_early : (aggregates : List Aggregate) (place : ℕ) (r : DataRecord) → HaveIntervals aggregates → timing_at aggregates place r 0 ≢ Late
timing_early [] place r last late = absurd cc
timing_early (a ∷ aggregates) zero r last late = timed_early a r last.0 late
timing_early (a ∷ aggregates) (suc place) r last late = timing_early aggregates place r last.1 late

-- what is said of a record isn't that it is late
abbrev SaysOther : What → Type 0
SaysOther said = (rule : ℕ) → said ≢ what.Withheld rule because.Late

told_other : (rule : ℕ) (timing : Timing) → timing ≢ Late → SaysOther (told_of rule timing)
told_other rule (Placed start) early other is = absurd cc
told_other rule NoTime early other is = absurd cc
told_other rule NoKey early other is = absurd cc
told_other rule Late early other is = early refl

removed_other : (removed : List RemovedField) → AllByRecursion SaysOther (removed_of removed)
removed_other [] = tt
removed_other (field ∷ fields) = (λ rule is. absurd (no rule is), tt) where
  no : (rule : ℕ) → what.Removed (field ∷ fields) ≡ what.Withheld rule because.Late → ⊥
  no rule is = absurd cc

withheld_other : (rule : ℕ) (reason : Reason) → IsOfRules reason → SaysOther (what.Withheld rule reason)
withheld_other rule because.Rule by other is = absurd cc
withheld_other rule because.ScopeLost by other is = absurd cc
withheld_other rule because.Empty by other is = absurd cc
withheld_other rule because.NoTime by other is = by
withheld_other rule because.NoKey by other is = by
withheld_other rule because.Late by other is = by

kept_other : (aggregates : List Aggregate) (r : DataRecord) (outcome : Outcome) → HaveIntervals aggregates → IsByRules outcome → AllByRecursion SaysOther (kept_back aggregates 0 r outcome)
kept_other aggregates r (Passed kept removed) last by = removed_other removed
kept_other aggregates r (Aggregated rule place) last by = (told_other rule (timing_at aggregates place r 0) (timing_early aggregates place r last), tt)
kept_other aggregates r (Withheld rule reason) last by = (withheld_other rule reason by, tt)

stamped : (position index sub : ℕ) (said : List What) → AllByRecursion SaysOther said → AllByRecursion IsNotLate (map (audit_entry position index sub) said)
stamped position index sub [] other = tt
stamped position index sub (one ∷ said) other = (other.0, stamped position index sub said other.1)

noted : (before : List Entry) (a : AcceptedRecord) (sub : ℕ) → HasNone clock_in before → AllByRecursion IsNotLate (audit_of before a sub)
noted before a sub none =
    let P : ℕ → Type 0 = λ clock. AllByRecursion IsNotLate (map (audit_entry a.position a.index sub) (kept_back (policy_in_force before).aggregates clock a.flow (outcome_for sub before a.domain a.flow))) in
    subst P (sym (last_of-none clock_in 0 before none))
    (stamped a.position a.index sub (kept_back (policy_in_force before).aggregates 0 a.flow (outcome_for sub before a.domain a.flow))
    (kept_other (policy_in_force before).aggregates a.flow (outcome_for sub before a.domain a.flow) (intervals_in_force before)
    (reasons_are_of_rules (name_of sub before) a.domain a.flow (policy_in_force before).rules)))

all_flat : {X A : Type 0} (P : A → Type 0) (f : X → List A) → ((x : X) → AllByRecursion P (f x)) → (xs : List X) → AllByRecursion P (flat_map f xs)
all_flat P f each [] = tt
all_flat P f each (x ∷ xs) = subst (AllByRecursion P) (sym (flat_map-cons f x xs)) (AllByRecursion-append P (f x) (flat_map f xs) (each x) (all_flat P f each xs))

noted_at : (before : List Entry) (e : Entry) → HasNone clock_in before → AllByRecursion IsNotLate (audit_at before e)
noted_at before (Message session number octets) none =
    all_flat IsNotLate (λ a. flat_map (audit_of before a) (served before)) (λ a. all_flat IsNotLate (audit_of before a) (λ sub. noted before a sub none) (served before))
    (accepted_at before (Message session number octets))
noted_at before (Cut sub) none = (λ rule is. absurd (no rule is), tt) where
  no : (rule : ℕ) → what.Cut ≡ what.Withheld rule because.Late → ⊥
  no rule is = absurd cc
noted_at before _ none = tt

each_noted : (before entries : List Entry) → HasNone clock_in before → HasNone clock_in entries → AllByRecursion IsNotLate (each_after audit_at before entries)
each_noted before [] none more = tt
each_noted before (e ∷ entries) none more =
    AllByRecursion-append IsNotLate (audit_at before e) (each_after audit_at (before ++ e ∷ []) entries) (noted_at before e none)
    (each_noted (before ++ e ∷ []) entries (AllByRecursion-append (λ x. clock_in x ≡ None) before (e ∷ []) none (more.0, tt)) more.1)

pub none_late : (job : OfflineJob) (messages : List (List ℕ)) → AllByRecursion IsNotLate (audit_list (history_of job messages))
none_late job messages = each_noted [] (history_of job messages) tt (no_advance job messages)
