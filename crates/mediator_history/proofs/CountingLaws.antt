-- What one entry more, and cuts in a row, change of the clock, of what counts in aggregates and of the running groups' records.
use Rattle.std.proofs.Common.{◌≡◌, ℕ, ◌≤◌, Bool, true, false, cond, List, [], ◌∷◌, ◌++◌, Option, Some, None, refl, sym, ap, ◌∙◌, arith, append-nil}
use Rattle.std.specs.Prelude.{◌≢◌, ◌&&◌, not, ◌^◌, nat_lt, nat_le, slice_get, unwrap_or}
use Rattle.std.specs.List.{flat_map}
use Rattle.std.proofs.Math.Bool.{and-true}
use Rattle.std.proofs.lemmas.Bool.{leb-true, leb-false, and_right, eq-eqb, ne_eqb}
use Rattle.std.proofs.lemmas.List.Concat.{flat_map-cons}
use Rattle.std.proofs.lemmas.List.Elements.{filter-append}
use Rattle.sequences.proofs.BeforeLaws.{each_with_before-push, last_of-push}
use Rattle.ipfix_template.specs.DataRecord.{DataRecord}
use Rattle.ipfix_session.specs.Meaning.{meaning_of, domain_of}
use Rattle.policy_text.specs.Policies.{PolicyMeaning as Policy, Aggregate}
use Rattle.flow_anonymize.specs.declared.disclosure.Disclosure.TheVariants.{Passed, Aggregated, Withheld}
use Rattle.flow_anonymize.specs.Outcome.{Outcome}
use Rattle.flow_anonymize.specs.Disclosed.{disclosure_of}
use Rattle.flow_aggregate.specs.declared.timing.Timing.{Timing}
use Rattle.flow_aggregate.specs.declared.timing.Timing.TheVariants.{Placed, NoTime, NoKey, Late}
use Rattle.flow_aggregate.specs.Placing.{flow_start, interval_start, closes_at, has_key, timing_of, timing_at as placed_at}
use Rattle.flow_aggregate.specs.Groups.{Sample, counted_as, group_of}
use Rattle.flow_aggregate.specs.Running.{is_due, staying}
use Rattle.flow_aggregate.specs.Closing.{closed_by}
use Rattle.event_journal.specs.declared.entry.Entry.{Entry}
use Rattle.event_journal.specs.declared.entry.Entry.TheVariants.{Open, Close, Message, Edit, Subscribe, Unsubscribe, Advance, Cut}
use Rattle.mediator_history.specs.Numbers.{is_in}
use Rattle.mediator_history.specs.Sessions.{messages_of}
use Rattle.mediator_history.specs.Subscriptions.{policy_in_force, name_of, switched, is_served}
use Rattle.mediator_history.specs.Accepted.{records_meant}
use Rattle.mediator_history.specs.Counting.{clock_in, clock_of, timing_in, timing_at, counted_in, counts, counts_for, counted_at, counted, running}
use Rattle.mediator_history.specs.Disclosed.{given_at}
use Rattle.mediator_history.specs.Cuts.{after_cuts}
use Rattle.mediator_history.proofs.HistoryLaws.{is_served-message}
use Rattle.mediator_history.proofs.CutLaws.{last_of-cuts, each-cuts, policy-cuts, name-cuts, messages-cuts, is_served-cuts, given-cuts}

-- ---- the clock

pub clock-push : (h : List Entry) (e : Entry) → clock_of (h ++ e ∷ []) ≡ unwrap_or (clock_in e) (clock_of h)
clock-push h e = last_of-push clock_in 0 h e

pub clock-cuts : (h : List Entry) (subs : List ℕ) → clock_of (after_cuts h subs) ≡ clock_of h
clock-cuts h subs = last_of-cuts clock_in 0 (λ sub. refl) h subs

-- ---- all that counts

pub counted-push : (sub : ℕ) (h : List Entry) (e : Entry) → counted sub (h ++ e ∷ []) ≡ counted sub h ++ counted_at sub h e
counted-push sub h e = each_with_before-push (counted_at sub) h e

pub counted-cuts : (sub : ℕ) (h : List Entry) (subs : List ℕ) → counted sub (after_cuts h subs) ≡ counted sub h
counted-cuts sub h subs = each-cuts (counted_at sub) (λ before s. refl) h subs

-- an entry that is no message brings nothing that counts, nor does one that comes while the subscription is not served
pub counted_same : (sub : ℕ) (h : List Entry) (e : Entry) → counted_at sub h e ≡ [] → counted sub (h ++ e ∷ []) ≡ counted sub h
counted_same sub h e none = counted-push sub h e ∙ ap (λ (t : List Sample). counted sub h ++ t) none ∙ append-nil (counted sub h)

pub counted_unserved : (sub : ℕ) (h : List Entry) (e : Entry) → is_served sub h ≡ false → counted_at sub h e ≡ []
counted_unserved sub h (Message session number octets) off = rw off refl
counted_unserved sub h _ off = refl

pub counted-served : (sub session number : ℕ) (octets : List ℕ) (h : List Entry) → is_served sub h ≡ true → counted_at sub h (Message session number octets) ≡ flat_map (counts_for sub h (domain_of octets)) (records_meant (meaning_of (messages_of session h) octets))
counted-served sub session number octets h on = rw on refl

-- ---- what counts of a message is not due yet

timed_early : (a : Aggregate) (r : DataRecord) (clock start : ℕ) (time : Option ℕ) → placed_at a r clock time ≡ Placed start → nat_le (closes_at a (interval_start a (unwrap_or time 0))) clock ≡ false
timed_early a r clock start None is = absurd cc
timed_early a r clock start (Some time) is = by (nat_lt time (2 ^ 62)) (has_key a.key r) (nat_le (closes_at a (interval_start a time)) clock) is where
  by : (early keyed due : Bool) → cond early (cond keyed (cond due Late (Placed (interval_start a time))) NoKey) NoTime ≡ Placed start → due ≡ false
  by true true true is = absurd cc
  by true true false is = refl
  by true false due is = absurd cc
  by false keyed due is = absurd cc

-- a record that the clock places is not due at it
pub placed_not_due : (a : Aggregate) (r : DataRecord) (clock start : ℕ) → timing_of a r clock ≡ Placed start → is_due clock (group_of (counted_as a r)) ≡ false
unfolding timing_of
placed_not_due a r clock start is = timed_early a r clock start (flow_start r) is

one_stays : (clock : ℕ) (a : Option Aggregate) (r : DataRecord) (timing : Timing) → timing_in a r clock ≡ timing → staying clock (counted_in a r timing) ≡ counted_in a r timing
one_stays clock None r timing is = refl
one_stays clock (Some a) r (Placed start) is = rw (placed_not_due a r clock start is) refl
one_stays clock (Some a) r NoTime is = refl
one_stays clock (Some a) r NoKey is = refl
one_stays clock (Some a) r Late is = refl

counts_stay : (clock : ℕ) (aggregates : List Aggregate) (r : DataRecord) (outcome : Outcome) → staying clock (counts aggregates clock r outcome) ≡ counts aggregates clock r outcome
counts_stay clock aggregates r (Passed kept removed) = refl
counts_stay clock aggregates r (Aggregated rule place) = one_stays clock (slice_get aggregates place) r (timing_at aggregates place r clock) refl
counts_stay clock aggregates r (Withheld rule reason) = refl

staying-append : (t : ℕ) (cs ds : List Sample) → staying t (cs ++ ds) ≡ staying t cs ++ staying t ds
staying-append t cs ds = filter-append (λ (c : Sample). not (is_due t (group_of c))) cs ds

all_stay : (clock : ℕ) (f : DataRecord → List Sample) → ((r : DataRecord) → staying clock (f r) ≡ f r) → (rs : List DataRecord) → staying clock (flat_map f rs) ≡ flat_map f rs
all_stay clock f each [] = refl
all_stay clock f each (r ∷ rs) =
    ap (staying clock) (flat_map-cons f r rs) ∙ staying-append clock (f r) (flat_map f rs)
    ∙ ap (λ (t : List Sample). t ++ staying clock (flat_map f rs)) (each r) ∙ ap (λ (t : List Sample). f r ++ t) (all_stay clock f each rs)
    ∙ sym (flat_map-cons f r rs)

-- ---- what stays at a time stayed at each time before

stays_before : (clock t : ℕ) (cs : List Sample) → clock ≤ t → staying t (staying clock cs) ≡ staying t cs
stays_before clock t [] before = refl
stays_before clock t (c ∷ cs) before = by (is_due clock (group_of c)) (is_due t (group_of c)) refl refl (stays_before clock t cs before) where
  by : (first second : Bool) → is_due clock (group_of c) ≡ first → is_due t (group_of c) ≡ second → staying t (staying clock cs) ≡ staying t cs
      → staying t (cond (not first) (c ∷ staying clock cs) (staying clock cs)) ≡ cond (not second) (c ∷ staying t cs) (staying t cs)
  by true true one two rest = rest
  by true false one two rest = absurd (omega (arith, before, leb-true _ _ one, leb-false _ _ two))
  by false true one two rest = rw two rest
  by false false one two rest = rw two (ap (λ (ds : List Sample). c ∷ ds) rest)

-- ---- the running groups' records

-- by whether the subscription is served, the clock and all that counted
runs : Bool → ℕ → List Sample → List Sample
runs on clock cs = cond on (staying clock cs) []

pub running_by : (sub : ℕ) (h g : List Entry) → is_served sub h ≡ is_served sub g → clock_of h ≡ clock_of g → counted sub h ≡ counted sub g → running sub h ≡ running sub g
unfolding runs
running_by sub h g on clock cs =
    ap (λ (b : Bool). runs b (clock_of h) (counted sub h)) on
    ∙ ap (λ (t : ℕ). runs (is_served sub g) t (counted sub h)) clock
    ∙ ap (runs (is_served sub g) (clock_of g)) cs

pub running_unserved : (sub : ℕ) (h : List Entry) → is_served sub h ≡ false → running sub h ≡ []
running_unserved sub h off = rw off refl

still_served : (sub : ℕ) (h : List Entry) (subs : List ℕ) → is_in sub subs ≡ false → is_served sub (after_cuts h subs) ≡ is_served sub h
still_served sub h subs left = is_served-cuts sub h subs ∙ ap (λ (cut : Bool). is_served sub h && not cut) left ∙ and-true (is_served sub h)

pub running-cuts : (sub : ℕ) (h : List Entry) (subs : List ℕ) → is_in sub subs ≡ false → running sub (after_cuts h subs) ≡ running sub h
running-cuts sub h subs left = running_by sub (after_cuts h subs) h (still_served sub h subs left) (clock-cuts h subs) (counted-cuts sub h subs)

-- an entry that is neither a message nor an advance, and leaves the subscription served or not as it was
pub running_same : (sub : ℕ) (h : List Entry) (e : Entry) → clock_in e ≡ None → counted_at sub h e ≡ [] → is_served sub (h ++ e ∷ []) ≡ is_served sub h → running sub (h ++ e ∷ []) ≡ running sub h
running_same sub h e no_clock none on =
    running_by sub (h ++ e ∷ []) h on (clock-push h e ∙ ap (λ (o : Option ℕ). unwrap_or o (clock_of h)) no_clock) (counted_same sub h e none)

pub running-open : (sub : ℕ) (h : List Entry) (session : ℕ) → running sub (h ++ Open session ∷ []) ≡ running sub h
running-open sub h session = running_same sub h (Open session) refl refl (last_of-push (switched sub) false h (Open session))

pub running-close : (sub : ℕ) (h : List Entry) (session : ℕ) → running sub (h ++ Close session ∷ []) ≡ running sub h
running-close sub h session = running_same sub h (Close session) refl refl (last_of-push (switched sub) false h (Close session))

pub running-edit : (sub : ℕ) (h : List Entry) (text : List ℕ) → running sub (h ++ Edit text ∷ []) ≡ running sub h
running-edit sub h text = running_same sub h (Edit text) refl refl (last_of-push (switched sub) false h (Edit text))

-- ---- entries of another subscription

pub running-subscribe : (sub : ℕ) (h : List Entry) (s : ℕ) (name : List ℕ) → s ≢ sub → running sub (h ++ Subscribe s name ∷ []) ≡ running sub h
running-subscribe sub h s name other = running_same sub h (Subscribe s name) refl refl (last_of-push (switched sub) false h (Subscribe s name) ∙ (rw (ne_eqb s sub other) refl))

pub running-unsubscribe : (sub : ℕ) (h : List Entry) (s : ℕ) → s ≢ sub → running sub (h ++ Unsubscribe s ∷ []) ≡ running sub h
running-unsubscribe sub h s other = running_same sub h (Unsubscribe s) refl refl (last_of-push (switched sub) false h (Unsubscribe s) ∙ (rw (ne_eqb s sub other) refl))

pub running-cut : (sub : ℕ) (h : List Entry) (s : ℕ) → s ≢ sub → running sub (h ++ Cut s ∷ []) ≡ running sub h
running-cut sub h s other = running_same sub h (Cut s) refl refl (last_of-push (switched sub) false h (Cut s) ∙ (rw (ne_eqb s sub other) refl))

-- ---- entries of the subscription

pub running_ended : (sub : ℕ) (h : List Entry) → running sub (h ++ Unsubscribe sub ∷ []) ≡ []
running_ended sub h = running_unserved sub (h ++ Unsubscribe sub ∷ []) (last_of-push (switched sub) false h (Unsubscribe sub) ∙ (rw (eq-eqb sub sub refl) refl))

pub running_cut : (sub : ℕ) (h : List Entry) → running sub (h ++ Cut sub ∷ []) ≡ []
running_cut sub h = running_unserved sub (h ++ Cut sub ∷ []) (last_of-push (switched sub) false h (Cut sub) ∙ (rw (eq-eqb sub sub refl) refl))

pub running_cut_off : (sub : ℕ) (h : List Entry) (subs : List ℕ) → is_in sub subs ≡ true → running sub (after_cuts h subs) ≡ []
running_cut_off sub h subs cut = running_unserved sub (after_cuts h subs) (is_served-cuts sub h subs ∙ ap (λ (b : Bool). is_served sub h && not b) cut ∙ and_right (is_served sub h) false refl)

pub running_begun : (sub : ℕ) (h : List Entry) (name : List ℕ) → counted sub h ≡ [] → running sub (h ++ Subscribe sub name ∷ []) ≡ []
unfolding runs
running_begun sub h name none = ap (runs (is_served sub new) (clock_of new)) (counted_same sub h (Subscribe sub name) refl ∙ none) ∙ empty (is_served sub new) where
  new : List Entry
  new = h ++ Subscribe sub name ∷ []

  empty : (on : Bool) → runs on (clock_of new) [] ≡ []
  empty true = refl
  empty false = refl

-- ---- a message and an advance

pub running-message : (sub : ℕ) (h : List Entry) (session number : ℕ) (octets : List ℕ) → running sub (h ++ Message session number octets ∷ []) ≡ running sub h ++ counted_at sub h (Message session number octets)
unfolding runs
running-message sub h session number octets =
    ap (λ (b : Bool). runs b (clock_of (h ++ e ∷ [])) (counted sub (h ++ e ∷ []))) (is_served-message sub h session number octets)
    ∙ ap (λ (t : ℕ). runs (is_served sub h) t (counted sub (h ++ e ∷ []))) (clock-push h e)
    ∙ ap (runs (is_served sub h) (clock_of h)) (counted-push sub h e)
    ∙ by (is_served sub h) where
      e : Entry
      e = Message session number octets

      new : List Sample
      new = flat_map (counts_for sub h (domain_of octets)) (records_meant (meaning_of (messages_of session h) octets))

      new_stay : staying (clock_of h) new ≡ new
      new_stay = all_stay (clock_of h) (counts_for sub h (domain_of octets)) (λ r. counts_stay (clock_of h) (policy_in_force h).aggregates r _) (records_meant (meaning_of (messages_of session h) octets))

      by : (on : Bool) → runs on (clock_of h) (counted sub h ++ cond on new []) ≡ runs on (clock_of h) (counted sub h) ++ cond on new []
      by true = staying-append (clock_of h) (counted sub h) new ∙ ap (λ (t : List Sample). staying (clock_of h) (counted sub h) ++ t) new_stay
      by false = refl

pub running-advance : (sub : ℕ) (h : List Entry) (t : ℕ) → clock_of h ≤ t → running sub (h ++ Advance t ∷ []) ≡ staying t (running sub h)
unfolding runs
running-advance sub h t before =
    ap (λ (b : Bool). runs b (clock_of (h ++ Advance t ∷ [])) (counted sub (h ++ Advance t ∷ []))) (last_of-push (switched sub) false h (Advance t))
    ∙ ap (λ (c : ℕ). runs (is_served sub h) c (counted sub (h ++ Advance t ∷ []))) (clock-push h (Advance t))
    ∙ ap (runs (is_served sub h) t) (counted_same sub h (Advance t) refl)
    ∙ by (is_served sub h) where
      by : (on : Bool) → runs on t (counted sub h) ≡ staying t (runs on (clock_of h) (counted sub h))
      by true = sym (stays_before (clock_of h) t (counted sub h) before)
      by false = refl

-- ---- what entries give and count, behind cuts of others

pub given-advance : (sub : ℕ) (h : List Entry) (t : ℕ) → given_at sub h (Advance t) ≡ closed_by t (running sub h)
given-advance sub h t = refl

pub given_at-cuts : (sub : ℕ) (h : List Entry) (subs : List ℕ) (e : Entry) → is_in sub subs ≡ false → given_at sub (after_cuts h subs) e ≡ given_at sub h e
given_at-cuts sub h subs (Message session number octets) left = given-cuts sub session number octets h subs left
given_at-cuts sub h subs (Advance t) left = ap (closed_by t) (running-cuts sub h subs left)
given_at-cuts sub h subs _ left = refl

-- what a message counts by all that it depends on
counts_by : Bool → List ℕ → Policy → ℕ → List (List ℕ) → List ℕ → List Sample
counts_by on name policy clock older octets =
    cond on (flat_map (λ r. counts policy.aggregates clock r (disclosure_of name (domain_of octets) r policy.rules)) (records_meant (meaning_of older octets))) []

counted_is : (sub session number : ℕ) (octets : List ℕ) (h : List Entry) → counted_at sub h (Message session number octets) ≡ counts_by (is_served sub h) (name_of sub h) (policy_in_force h) (clock_of h) (messages_of session h) octets
unfolding counts_by
counted_is sub session number octets h = refl

message-cuts : (sub session number : ℕ) (octets : List ℕ) (h : List Entry) (subs : List ℕ) → is_in sub subs ≡ false → counted_at sub (after_cuts h subs) (Message session number octets) ≡ counted_at sub h (Message session number octets)
message-cuts sub session number octets h subs left =
    counted_is sub session number octets (after_cuts h subs)
    ∙ ap (λ on. counts_by on (name_of sub (after_cuts h subs)) (policy_in_force (after_cuts h subs)) (clock_of (after_cuts h subs)) (messages_of session (after_cuts h subs)) octets) (still_served sub h subs left)
    ∙ ap (λ name. counts_by (is_served sub h) name (policy_in_force (after_cuts h subs)) (clock_of (after_cuts h subs)) (messages_of session (after_cuts h subs)) octets) (name-cuts sub h subs)
    ∙ ap (λ policy. counts_by (is_served sub h) (name_of sub h) policy (clock_of (after_cuts h subs)) (messages_of session (after_cuts h subs)) octets) (policy-cuts h subs)
    ∙ ap (λ clock. counts_by (is_served sub h) (name_of sub h) (policy_in_force h) clock (messages_of session (after_cuts h subs)) octets) (clock-cuts h subs)
    ∙ ap (λ older. counts_by (is_served sub h) (name_of sub h) (policy_in_force h) (clock_of h) older octets) (messages-cuts session h subs)
    ∙ sym (counted_is sub session number octets h)

pub counted_at-cuts : (sub : ℕ) (h : List Entry) (subs : List ℕ) (e : Entry) → is_in sub subs ≡ false → counted_at sub (after_cuts h subs) e ≡ counted_at sub h e
counted_at-cuts sub h subs (Message session number octets) left = message-cuts sub session number octets h subs left
counted_at-cuts sub h subs _ left = refl
