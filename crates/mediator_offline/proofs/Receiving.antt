-- A message that a run accepts, or refuses.
use Rattle.std.proofs.Common.{◌≡◌, ℕ, ◌+◌, ◌-◌, ◌≤◌, ◌<◌, ◌^◌, ◌⊎◌, inl, inr, Bool, true, false, List, [], ◌∷◌, ◌++◌, length, drop, map, Option, Some, None, Result, Ok, Err, refl, sym, ap, ◌∙◌, subst, arith, append_assoc, append-nil, length-append}
use Rattle.std.specs.Result.{IsErr, IsErrAnd, IfErr}
use Rattle.std.specs.Prelude.{filter, nat_lt, take, is_some, IfSome, IsOk, OnOk, OnErr}
use Rattle.std.specs.List.{flat_map, enumerate_from}
use Rattle.std.proofs.lemmas.Bool.{ltb-true, ltb-false}
use Rattle.std.proofs.lemmas.List.{drop_all, take_all, length_push, length-map, length-drop}
use Rattle.std.proofs.Math.Seq.{drop-append_seam}
use Rattle.std.proofs.lemmas.List.Concat.{flat_map-cons}
use Rattle.std.proofs.lemmas.List.FromFn.{length-enumerate_from}
use Rattle.sequences.proofs.BeforeLaws.{last_of-push}
use Rattle.ipfix_session.specs.Meaning.{meaning_of, domain_of}
use Rattle.subscriber_stream.specs.declared.limits.StreamLimits.{StreamLimits}
use Rattle.subscriber_stream.specs.Parts.{parts, records_of_parts}
use Rattle.policy_text.specs.Policies.{Aggregate}
use Rattle.flow_anonymize.specs.declared.disclosure.Disclosure.TheVariants.{Passed, Aggregated, Withheld}
use Rattle.flow_anonymize.specs.Outcome.{Outcome}
use Rattle.disclosure_audit.specs.declared.entry.AuditEntry.{AuditEntry}
use Rattle.disclosure_audit.specs.declared.entry.What.TheVariants.{Cut as CutOff}
use Rattle.disclosure_audit.specs.Queue.{StandsIn, oldest, oldest_in}
use Rattle.event_journal.specs.declared.entry.Entry.{Entry}
use Rattle.event_journal.specs.declared.entry.Entry.TheVariants.{Message, Cut}
use Rattle.event_journal.specs.Room.{HasRoomAfter}
use Rattle.event_journal.specs.Sizes.{history_octets}
use Rattle.mediator_history.specs.Sessions.{messages_of, opens}
use Rattle.mediator_history.specs.Subscriptions.{policy_in_force, is_live, is_served, subscribed_in, served}
use Rattle.mediator_history.specs.Accepted.{AcceptedRecord, records_meant, records_at, accepted_as, accepted_at, accepted}
use Rattle.mediator_history.specs.Counting.{outcome_for, clock_of}
use Rattle.mediator_history.specs.Disclosed.{given_at, disclosed}
use Rattle.mediator_history.specs.Auditing.{audit_of, audit_at, audit_list, audit_entry, kept_back}
use Rattle.mediator_history.specs.Cuts.{overflows, is_cut_by, cuts_before}
use Rattle.mediator_history.proofs.HistoryLaws.{flat_map-push, is_served-message, subscribed-message, accepted-push, audit-push, octets-push}
use Rattle.mediator_history.proofs.SinceLaws.{cut_is_served_no_more}
use Rattle.mediator_history.proofs.Counts.{few_records}
use Rattle.mediator_history.proofs.EntryLaws.{served_is_live, messages-any}
use Rattle.mediator_tables.specs.declared.subscription.Subscription.{Subscription}
use Rattle.mediator_tables.specs.SubscriptionTable.{at}
use Rattle.mediator_state.specs.declared.fault.Fault.{Fault as MediatorFault}
use Rattle.mediator_state.specs.declared.fault.Fault.TheVariants as fault
use Rattle.mediator_state.specs.declared.receipt.Receipt.{Receipt}
use Rattle.mediator_state.specs.Standing.{IsLiveAs}
use Rattle.mediator_state.specs.Seen.{place_in, waiting_in, waiting_of, handed_place, IsUntouched}
use Rattle.mediator_state.specs.Calls as calls
use Rattle.mediator_state.specs.Calls.{StateStandsFor, with_cuts_after, RefusesReceiveAfter}
use Rattle.mediator_offline.specs.declared.run.OfflineRun.{OfflineRun}
use Rattle.mediator_offline.specs.Offline.{offline_stream_limits, offline_journal_limits, next_message, cuts_by, after_message}
use Rattle.mediator_offline.specs.Runs.{sizes_tell, listed, audit_waiting, audit_count, KeepsAsked, audit_drained, SameButState, RunStands, Small}
use Rattle.mediator_offline.specs.Recording.{Records}
use Rattle.mediator_offline.specs.Offline.{end_of}
use Rattle.mediator_offline.specs.Steps.{HasDelivered, TakesMessage, RunRefuses}
use Rattle.mediator_offline.specs.Accepting.{AcceptsMessage, RefusesOctets}
use Rattle.mediator_offline.proofs.Messages.{served_alone, filter-none, cuts_none, cuts_one}
use Rattle.event_journal.specs.declared.limits.TheConstants.{MOST_ENTRIES, MOST_OCTETS}

-- ---- the faults of the parts

-- what is known of an error that was handed on
pub err_gives : {X E : Type 0} {P Q : E → Type 0} (r : Result X E) → IsErr r × IsErrAnd r P → ((e : E) → P e → Q e) → IfErr r Q
err_gives (Ok x) known f = tt
err_gives (Err e) known f = f e known.1

pub on_err : {X E : Type 0} {P : Type 0} (r : Result X E) → P → OnErr r P
on_err (Ok x) p = tt
on_err (Err e) p = p

-- what follows of an answer
pub ok_leads : {X E : Type 0} {P Q : Type 0} (r : Result X E) → OnOk r P → (P → Q) → OnOk r Q
ok_leads (Ok x) known f = f known
ok_leads (Err e) known f = tt

pub err_leads : {X E : Type 0} {P Q : E → Type 0} (r : Result X E) → IfErr r P → ((e : E) → P e → Q e) → IfErr r Q
err_leads (Ok x) known f = tt
err_leads (Err e) known f = f e known

-- ---- where the subscription stands

place_within : (h : List Entry) (limits : StreamLimits) (o : Option Subscription) → IsLiveAs h limits 1 o → is_live 1 h ≡ true → place_in o ≤ end_of h
place_within h limits None is live = absurd (no is live)
  where
    no : is_live 1 h ≡ false → is_live 1 h ≡ true → ⊥
    no a b = off (sym a ∙ b) where
      off : false ≡ true → ⊥
      off e = absurd cc
place_within h limits (Some s) is live = is.stream.within

pub within_end : {Q : Type 0} (d : OfflineRun Q) (h : List Entry) (p : ℕ) → RunStands d h p → p ≤ end_of h
within_end d h p so = subst (λ q. q ≤ end_of h) so.place
    (place_within h d.state.engine.limits (at d.state.engine.subscriptions 1) (so.state.stands.subscriptions 1) (served_is_live 1 h so.serving))

none_waits : (h : List Entry) (limits : StreamLimits) (o : Option Subscription) → IsLiveAs h limits 1 o → place_in o ≡ end_of h → waiting_in o ≡ 0
none_waits h limits None is here = refl
none_waits h limits (Some s) is here =
    ap (λ ps. length (records_of_parts ps)) (is.stream.waiting ∙ ap (λ n. drop n (parts (disclosed 1 h))) here ∙ drop_all (end_of h) (parts (disclosed 1 h)) (omega arith))

pub small_of : {Q : Type 0} (d : OfflineRun Q) (h : List Entry) (p : ℕ) → RunStands d h p → length h ≤ MOST_ENTRIES → history_octets h ≤ MOST_OCTETS → length (accepted h) ≤ history_octets h → Small h
small_of d h p so entries octets records = record { entries = entries; octets = octets; records = records; listed = so.state.stands.small.listed 1; streamable = so.state.stands.small.streamable 1 }

-- ---- whom a message cuts

cuts_alone : (limits : StreamLimits) (h : List Entry) (entry : Entry) (w v : ℕ → ℕ) → served h ≡ 1 ∷ [] → w 1 ≡ v 1 → cuts_before limits h entry w ≡ cuts_before limits h entry v
cuts_alone limits h entry w v alone same =
    ap (λ subs. map Cut (filter (is_cut_by limits h entry w) subs)) alone
    ∙ ap (λ n. map Cut (filter (λ (sub : ℕ). overflows limits (disclosed sub h) n (given_at sub h entry)) (1 ∷ []))) same
    ∙ sym (ap (λ subs. map Cut (filter (is_cut_by limits h entry v) subs)) alone)

-- where all was handed out, a message makes the cuts that it makes where nothing waits
pub same_cuts : {Q : Type 0} (d : OfflineRun Q) (h : List Entry) (octets : List ℕ) → RunStands d h (end_of h) → cuts_before d.state.engine.limits h (Message 1 d.messages octets) (waiting_of d.state.engine) ≡ cuts_by h octets
same_cuts d h octets so =
    ap (λ n. cuts_before d.state.engine.limits h (Message 1 n octets) (waiting_of d.state.engine)) so.messages
    ∙ ap (λ limits. cuts_before limits h (next_message h octets) (waiting_of d.state.engine)) so.limited.limits
    ∙ cuts_alone offline_stream_limits h (next_message h octets) (waiting_of d.state.engine) (λ sub. 0) (served_alone h so.alone so.serving)
    (none_waits h d.state.engine.limits (at d.state.engine.subscriptions 1) (so.state.stands.subscriptions 1) so.place)

pub same_entries : {Q : Type 0} (d : OfflineRun Q) (h : List Entry) (octets : List ℕ) → RunStands d h (end_of h) → with_cuts_after d.state.engine h (Message 1 d.messages octets) ≡ cuts_by h octets ++ next_message h octets ∷ []
same_entries d h octets so =
    ap (λ (cuts : List Entry). cuts ++ Message 1 d.messages octets ∷ []) (same_cuts d h octets so)
    ∙ ap (λ n. cuts_by h octets ++ Message 1 n octets ∷ []) so.messages

one_or_none : (h : List Entry) (octets : List ℕ) → served h ≡ 1 ∷ [] → (cuts_by h octets ≡ []) ⊎ (cuts_by h octets ≡ Cut 1 ∷ [])
one_or_none h octets alone = by (is_cut_by offline_stream_limits h (next_message h octets) (λ sub. 0) 1) refl where
  by : (b : Bool) → is_cut_by offline_stream_limits h (next_message h octets) (λ sub. 0) 1 ≡ b → (cuts_by h octets ≡ []) ⊎ (cuts_by h octets ≡ Cut 1 ∷ [])
  by true is = inr (cuts_one h octets alone is)
  by false is = inl (cuts_none h octets alone is)

-- ---- what a message adds to the audit

few_each : {X A : Type 0} (f : X → List A) → ((x : X) → length (f x) ≤ 1) → (xs : List X) → length (flat_map f xs) ≤ length xs
few_each f few [] = omega arith
few_each f few (x ∷ xs) = rw (flat_map-cons f x xs) (omega (arith, length-append (f x) (flat_map f xs), few x, few_each f few xs))

noted-few : (aggregates : List Aggregate) (clock : ℕ) (a : AcceptedRecord) (o : Outcome) → length (map (audit_entry a.position a.index 1) (kept_back aggregates clock a.flow o)) ≤ 1
noted-few aggregates clock a (Passed kept []) = omega arith
noted-few aggregates clock a (Passed kept (field ∷ fields)) = omega arith
noted-few aggregates clock a (Aggregated rule place) = omega arith
noted-few aggregates clock a (Withheld rule reason) = omega arith

accepted-many : (h : List Entry) (octets : List ℕ) → length (accepted_at h (next_message h octets)) ≡ length (records_meant (meaning_of (messages_of 1 h) octets))
accepted-many h octets =
    length-map (enumerate_from 0 (records_at h (next_message h octets))) (accepted_as (length h) 1 (domain_of octets))
    ∙ length-enumerate_from 0 (records_at h (next_message h octets))

pub noted_few : (h : List Entry) (octets : List ℕ) → served h ≡ 1 ∷ [] → length (audit_at h (next_message h octets)) ≤ length octets
noted_few h octets alone =
    omega (arith, few_each (λ a. flat_map (audit_of h a) (served h)) each (accepted_at h (next_message h octets)), accepted-many h octets, few_records (messages_of 1 h) octets)
  where
    each : (a : AcceptedRecord) → length (flat_map (audit_of h a) (served h)) ≤ 1
    each a = rw alone (omega (arith, noted-few (policy_in_force h).aggregates (clock_of h) a (outcome_for 1 h a.domain a.flow), length-append (audit_of h a 1) [], ap length (flat_map-cons (audit_of h a) 1 [])))

-- after a cut of the only subscription that is served, a message adds nothing to the audit
audit_after_cut : (h : List Entry) (octets : List ℕ) (number : ℕ) → flat_map subscribed_in h ≡ 1 ∷ [] → audit_at (h ++ Cut 1 ∷ []) (Message 1 number octets) ≡ []
audit_after_cut h octets number alone =
    ap (λ subs. flat_map (λ a. flat_map (audit_of (h ++ Cut 1 ∷ []) a) subs) (accepted_at (h ++ Cut 1 ∷ []) (Message 1 number octets))) none
    ∙ nothing (accepted_at (h ++ Cut 1 ∷ []) (Message 1 number octets))
  where
    none : served (h ++ Cut 1 ∷ []) ≡ []
    none = ap (filter (λ sub. is_served sub (h ++ Cut 1 ∷ []))) (flat_map-push subscribed_in h (Cut 1) ∙ append-nil (flat_map subscribed_in h) ∙ alone)
        ∙ filter-none (λ sub. is_served sub (h ++ Cut 1 ∷ [])) 1 (cut_is_served_no_more 1 h)

    nothing : (others : List AcceptedRecord) → flat_map (λ a. flat_map (audit_of (h ++ Cut 1 ∷ []) a) []) others ≡ []
    nothing [] = refl
    nothing (a ∷ others) = flat_map-cons (λ x. flat_map (audit_of (h ++ Cut 1 ∷ []) x) []) a others ∙ nothing others

pub audit_of_cut : (h : List Entry) (octets : List ℕ) → flat_map subscribed_in h ≡ 1 ∷ [] → cuts_by h octets ≡ Cut 1 ∷ [] → audit_list (after_message h octets) ≡ audit_list h ++ audit_entry (length h) 0 1 CutOff ∷ []
audit_of_cut h octets alone cuts =
    ap (λ c. audit_list (h ++ (c ++ next_message h octets ∷ []))) cuts
    ∙ ap audit_list (sym (append_assoc h (Cut 1 ∷ []) (next_message h octets ∷ [])))
    ∙ audit-push (h ++ Cut 1 ∷ []) (next_message h octets)
    ∙ ap (λ e. audit_list (h ++ Cut 1 ∷ []) ++ e) (audit_after_cut h octets (length (messages_of 1 h)) alone)
    ∙ append-nil (audit_list (h ++ Cut 1 ∷ []))
    ∙ audit-push h (Cut 1)

-- ---- a message that is accepted

messages_more : (h : List Entry) (number : ℕ) (octets : List ℕ) → messages_of 1 (h ++ Message 1 number octets ∷ []) ≡ octets ∷ messages_of 1 h
messages_more h number octets = messages-any 1 1 number octets h

-- what a call of the state gives to a run
pub record Taken {Q : Type 0} (old new : OfflineRun Q) (octets : List ℕ) (r : Receipt) : Type 0 where
  pub job : new.job ≡ old.job
  pub messages : new.messages ≡ old.messages + 1
  pub records : new.records ≡ old.records + r.records
  pub untouched : IsUntouched old.state.engine new.state.engine
  pub journaled : new.state.chronicle.limits ≡ old.state.chronicle.limits
  pub receives : calls.GoesOnBy sizes_tell (λ t. t.limits) old.state new.state (calls.ReceivesAfter old.state.engine 1 old.messages octets r)

accepts_it : {Q : Type 0} (old new : OfflineRun Q) (octets : List ℕ) (r : Receipt) (h : List Entry) → Taken old new octets r → RunStands old h (end_of h) → AcceptsMessage h octets
accepts_it old new octets r h t so =
    let got = t.receives h so.state in
    record {
      meaning = got.meaning;
      means = got.means;
      room = subst (λ l. HasRoomAfter l h (cuts_by h octets ++ next_message h octets ∷ [])) so.limited.journal (subst (HasRoomAfter old.state.chronicle.limits h) (same_entries old h octets so) got.accepts.room);
    }

stands_after : {Q : Type 0} (old new : OfflineRun Q) (octets : List ℕ) (r : Receipt) (h : List Entry) → Taken old new octets r → RunStands old h (end_of h) → StateStandsFor sizes_tell new.state (after_message h octets)
stands_after old new octets r h t so = subst (λ more. StateStandsFor sizes_tell new.state (h ++ more)) (same_entries old h octets so) (t.receives h so.state).accepts.stands

cut_count : {Q : Type 0} (old new : OfflineRun Q) (octets : List ℕ) (r : Receipt) (h : List Entry) → Taken old new octets r → RunStands old h (end_of h) → r.cut ≡ length (cuts_by h octets)
cut_count old new octets r h t so = ap (λ x. x.cut) (t.receives h so.state).receipt ∙ ap length (same_cuts old h octets so)

goes_on : {Q : Type 0} (old new : OfflineRun Q) (octets : List ℕ) (r : Receipt) (h : List Entry) → Taken old new octets r → RunStands old h (end_of h) → Small h → cuts_by h octets ≡ [] → RunStands new (after_message h octets) (end_of h) × Small (after_message h octets)
goes_on old new octets r h t so small none = (subst (λ x. RunStands new x (end_of h)) (sym whole) stands, subst Small (sym whole) stays)
  where
    next : Entry
    next = next_message h octets

    number : ℕ
    number = length (messages_of 1 h)

    whole : after_message h octets ≡ h ++ next ∷ []
    whole = ap (λ cuts. h ++ (cuts ++ next ∷ [])) none

    got : calls.ReceivesAfter old.state.engine 1 old.messages octets r h (calls.Accepts sizes_tell (λ t. t.limits) old.state new.state h)
    got = t.receives h so.state

    room : HasRoomAfter offline_journal_limits h (next ∷ [])
    room = subst (λ cuts. HasRoomAfter offline_journal_limits h (cuts ++ next ∷ [])) none (accepts_it old new octets r h t so).room

    brought : r.records ≡ length (accepted_at h next)
    brought = ap (λ x. x.records) got.receipt ∙ ap (λ x. length (records_meant x)) (sym got.means) ∙ sym (accepted-many h octets)

    accepts : length (accepted (h ++ next ∷ [])) ≡ length (accepted h) + length (accepted_at h next)
    accepts = ap length (accepted-push h next) ∙ length-append (accepted h) (accepted_at h next)

    stands : RunStands new (h ++ next ∷ []) (end_of h)
    stands = record {
      state = subst (StateStandsFor sizes_tell new.state) whole (stands_after old new octets r h t so);
      place = t.untouched.places 1 ∙ so.place;
      serving = is_served-message 1 h 1 number octets ∙ so.serving;
      alone = subscribed-message h 1 number octets ∙ so.alone;
      opened = last_of-push (opens 1) false h next ∙ so.opened;
      limited = record { limits = t.untouched.limits ∙ so.limited.limits; audit = t.untouched.audit_limit ∙ so.limited.audit; journal = t.journaled ∙ so.limited.journal };
      messages = omega (arith, t.messages, so.messages, ap length (messages_more h number octets));
      counted = omega (arith, so.counted, length_push h next, ap length (messages_more h number octets));
      records = omega (arith, t.records, so.records, brought, accepts);
    }

    stays : Small (h ++ next ∷ [])
    stays = small_of new (h ++ next ∷ []) (end_of h) stands
        (omega (arith, length_push h next, room.entries_fit))
        (omega (arith, octets-push h next, room.octets_fit, octets_one))
        (omega (arith, accepts, octets-push h next, small.records, accepted-many h octets, few_records (messages_of 1 h) octets))
      where
        octets_one : history_octets (next ∷ []) ≡ 21 + length octets
        octets_one = omega (arith, octets-push [] next)

pub received : {Q : Type 0} (old new : OfflineRun Q) (octets : List ℕ) (r : Receipt) → Taken old new octets r → TakesMessage old octets (nat_lt 0 r.cut) new
received old new octets r t = record {
  accepts = λ h so small. accepts_it old new octets r h t so;
  cuts = λ h so small is. (one h so is (one_or_none h octets (served_alone h so.alone so.serving)), stands_after old new octets r h t so);
  drained = t.untouched.drained;
  goes_on = λ h so small is.
      let none = nothing h so is (one_or_none h octets (served_alone h so.alone so.serving)) in
      let next = goes_on old new octets r h t so small none in
      (none, next.0, next.1);
}
  where
    one : (h : List Entry) → RunStands old h (end_of h) → nat_lt 0 r.cut ≡ true → (cuts_by h octets ≡ []) ⊎ (cuts_by h octets ≡ Cut 1 ∷ []) → cuts_by h octets ≡ Cut 1 ∷ []
    one h so is (inl none) = absurd (omega (arith, ltb-true 0 r.cut is, cut_count old new octets r h t so, ap length none))
    one h so is (inr cut) = cut

    nothing : (h : List Entry) → RunStands old h (end_of h) → nat_lt 0 r.cut ≡ false → (cuts_by h octets ≡ []) ⊎ (cuts_by h octets ≡ Cut 1 ∷ []) → cuts_by h octets ≡ []
    nothing h so is (inl none) = none
    nothing h so is (inr cut) = absurd (omega (arith, ltb-false 0 r.cut is, cut_count old new octets r h t so, ap length cut))

-- what a message brings is no more than its octets
octets_few : (h : List Entry) (octets : List ℕ) → HasRoomAfter offline_journal_limits h (next_message h octets ∷ []) → length octets < 2 ^ 32
octets_few h octets room = room.spelled 0 (next_message h octets) (omega arith)

pub records_fit : {Q : Type 0} (old new : OfflineRun Q) (octets : List ℕ) (r : Receipt) → HasDelivered old → calls.GoesOnBy sizes_tell (λ t. t.limits) old.state new.state (calls.ReceivesAfter old.state.engine 1 old.messages octets r) → old.records + r.records < 2 ^ 64
records_fit old new octets r had receives =
    omega (arith, had.stands.records, had.small.records, had.small.octets, ap (λ x. x.records) got.receipt, ap (λ x. length (records_meant x)) (sym got.means), few_records (messages_of 1 had.history) octets, long)
  where
    got : calls.ReceivesAfter old.state.engine 1 old.messages octets r had.history (calls.Accepts sizes_tell (λ t. t.limits) old.state new.state had.history)
    got = receives had.history had.stands.state

    room : HasRoomAfter offline_journal_limits had.history (with_cuts_after old.state.engine had.history (Message 1 old.messages octets))
    room = subst (λ l. HasRoomAfter l had.history (with_cuts_after old.state.engine had.history (Message 1 old.messages octets))) had.stands.limited.journal got.accepts.room

    long : length octets ≤ MOST_OCTETS
    long = omega (arith, room.octets_fit, ap history_octets (same_entries old had.history octets had.stands), octets-push (cuts_by had.history octets) (next_message had.history octets))

-- ---- the audit of a run

-- all entries were drained
drained_all : {Q : Type 0} (d : OfflineRun Q) (all : List AuditEntry) → StandsIn d.state.engine.audit.standing all → audit_count d ≡ 0 → audit_drained d ≡ length all
drained_all d all so quiet = omega (arith, so.within, so.waiting, quiet, length-drop (audit_drained d) all)

-- as many wait after a message as it adds
pub count_added : {Q : Type 0} (d e : OfflineRun Q) (all more : List AuditEntry) → StandsIn d.state.engine.audit.standing all → audit_count d ≡ 0 → audit_drained e ≡ audit_drained d
    → StandsIn e.state.engine.audit.standing (all ++ more) → audit_count e ≡ length more
count_added d e all more so quiet same then =
    omega (arith, then.waiting, same, drained_all d all so quiet, length-drop (audit_drained e) (all ++ more), length-append all more)

-- what waits then, where it is kept, is what it adds
pub waits_added : {Q : Type 0} (d e : OfflineRun Q) (all more : List AuditEntry) → StandsIn d.state.engine.audit.standing all → audit_count d ≡ 0 → audit_drained e ≡ audit_drained d
    → StandsIn e.state.engine.audit.standing (all ++ more) → IfSome e.state.engine.audit.standing.entries (λ es. es ≡ more)
waits_added d e all more so quiet same then = by e.state.engine.audit.standing.entries then.kept where
  by : (entries : Option (List AuditEntry)) → IfSome entries (λ es. es ≡ drop (audit_drained e) (all ++ more)) → IfSome entries (λ es. es ≡ more)
  by None is = tt
  by (Some es) is = is ∙ ap (λ (n : ℕ). drop n (all ++ more)) (same ∙ drained_all d all so quiet) ∙ drop-append_seam all more

pub few_noted : {Q : Type 0} (old new : OfflineRun Q) (octets : List ℕ) (r : Receipt) → HasDelivered old → Taken old new octets r → audit_count new < 2 ^ 32
few_noted old new octets r had t = by (one_or_none had.history octets (served_alone had.history had.stands.alone had.stands.serving))
  where
    h : List Entry
    h = had.history

    waits : (more : List AuditEntry) → audit_list (after_message h octets) ≡ audit_list h ++ more → audit_count new ≡ length more
    waits more is = count_added old new (audit_list h) more had.stands.state.stands.audit had.quiet t.untouched.drained
        (subst (StandsIn new.state.engine.audit.standing) is (stands_after old new octets r h t had.stands).stands.audit)

    by : (cuts_by h octets ≡ []) ⊎ (cuts_by h octets ≡ Cut 1 ∷ []) → audit_count new < 2 ^ 32
    by (inr cut) = omega (arith, waits (audit_entry (length h) 0 1 CutOff ∷ []) (audit_of_cut h octets had.stands.alone cut))
    by (inl none) = omega (
      arith,
      waits (audit_at h (next_message h octets)) (ap (λ cuts. audit_list (h ++ (cuts ++ next_message h octets ∷ []))) none ∙ audit-push h (next_message h octets)),
      noted_few h octets (served_alone h had.stands.alone had.stands.serving),
      octets_few h octets (subst (λ cuts. HasRoomAfter offline_journal_limits h (cuts ++ next_message h octets ∷ [])) none (accepts_it old new octets r h t had.stands).room),
    )

-- ---- refusals

pub refused : {Q : Type 0} (e : MediatorFault) (old : OfflineRun Q) (octets : List ℕ) → HasDelivered old → ((h : List Entry) → StateStandsFor sizes_tell old.state h → RefusesReceiveAfter e old.state.chronicle.limits old.state.engine h 1 old.messages octets) → RunRefuses e old octets
refused e old octets had refuses = record { after = λ h so small. by e h so (refuses h so.state) }
  where
    judged : (h : List Entry) → RunStands old h (end_of h) → HasRoomAfter old.state.chronicle.limits h (with_cuts_after old.state.engine h (Message 1 old.messages octets)) → HasRoomAfter offline_journal_limits h (cuts_by h octets ++ next_message h octets ∷ [])
    judged h so room = subst (λ l. HasRoomAfter l h (cuts_by h octets ++ next_message h octets ∷ [])) so.limited.journal (subst (HasRoomAfter old.state.chronicle.limits h) (same_entries old h octets so) room)

    back : (h : List Entry) → RunStands old h (end_of h) → HasRoomAfter offline_journal_limits h (cuts_by h octets ++ next_message h octets ∷ []) → HasRoomAfter old.state.chronicle.limits h (with_cuts_after old.state.engine h (Message 1 old.messages octets))
    back h so room = subst (HasRoomAfter old.state.chronicle.limits h) (sym (same_entries old h octets so)) (subst (λ l. HasRoomAfter l h (cuts_by h octets ++ next_message h octets ∷ [])) (sym so.limited.journal) room)

    by : (f : MediatorFault) (h : List Entry) → RunStands old h (end_of h) → RefusesReceiveAfter f old.state.chronicle.limits old.state.engine h 1 old.messages octets → RefusesOctets f h octets
    by (fault.Malformed why) h so x = x.1
    by fault.OutOfMemory h so x = tt
    by fault.JournalFull h so x = (x.1, λ room. x.2 (back h so room))
    by (fault.AuditFull need room) h so x = (
      record { meaning = x.1.meaning; means = x.1.means; room = judged h so x.2 },
      (x.3.0, ap (λ more. audit_list (h ++ more)) (sym (same_entries old h octets so)) ∙ x.3.1, x.3.2),
      omega (arith, x.4, had.quiet, so.limited.audit),
      x.5,
    )
    by fault.UnknownSession h so x = absurd (no (sym x ∙ so.opened)) where
      no : false ≡ true → ⊥
      no e = absurd cc
    by (fault.OutOfTurn expected) h so x = absurd (x.2 (so.messages ∙ sym x.1))
    by _ h so x = absurd x

-- ---- pulls and drains

pub pull_memory : (f : MediatorFault) (h : List Entry) → is_live 1 h ≡ true → calls.RefusesPull f h 1 → f ≡ fault.OutOfMemory
pull_memory fault.UnknownSub h live x = absurd (no (sym x ∙ live))
  where
    no : false ≡ true → ⊥
    no e = absurd cc
pull_memory fault.OutOfMemory h live x = refl
pull_memory _ h live x = absurd x

-- all that waits is drained, and handed out where it is kept
pub drained_are : {Q : Type 0} (d : OfflineRun Q) (h : List Entry) (out : List AuditEntry) → StateStandsFor sizes_tell d.state h → audit_count d < 2 ^ 32 → KeepsAsked d → d.job.audit ≡ true
    → (is_some d.state.engine.audit.standing.entries ≡ true → out ≡ take 4294967295 (drop (audit_drained d) (audit_list h))) → out ≡ audit_waiting d
drained_are d h out so few kept asked is = by d.state.engine.audit.standing.entries (kept ∙ asked) so.stands.audit.kept where
  by : (entries : Option (List AuditEntry)) → is_some entries ≡ true → IfSome entries (λ es. es ≡ drop (audit_drained d) (audit_list h)) → out ≡ listed entries
  by None some are = absurd cc
  by (Some es) some are = is (kept ∙ asked) ∙ take_all 4294967295 (drop (audit_drained d) (audit_list h)) (omega (arith, few, so.stands.audit.waiting)) ∙ sym are

-- where a drain is refused, there were entries to hand out, and so they are kept
pub refused_asked : {Q X E : Type 0} (d : OfflineRun Q) (most : ℕ) (r : Result X E) → KeepsAsked d → (oldest most d.state.engine.audit.standing ≡ [] → IsOk r) → ((x : X) → r ≡ Ok x → ⊥) → d.job.audit ≡ true
refused_asked {X = X} {E = E} d most r kept none stopped = by d.state.engine.audit.standing.entries kept none where
  never : (a : Result X E) → IsOk a → ((x : X) → a ≡ Ok x → ⊥) → ⊥
  never (Ok x) ok is = is x refl
  never (Err e) ok is = absurd cc

  by : (entries : Option (List AuditEntry)) → is_some entries ≡ d.job.audit → (oldest_in most entries ≡ [] → IsOk r) → d.job.audit ≡ true
  by None is ok = absurd (never r (ok refl) stopped)
  by (Some es) is ok = sym is

-- what a call of the state that drains the audit gives to a run
pub record Drains {Q : Type 0} (d e : OfflineRun Q) : Type 0 where
  pub same : SameButState d e
  pub sent : e.sent ≡ d.sent
  pub places : (q : ℕ) → handed_place e.state.engine q ≡ handed_place d.state.engine q
  pub stands : (h : List Entry) → StateStandsFor sizes_tell d.state h → StateStandsFor sizes_tell e.state h
  pub waiting : audit_count e ≡ audit_count d - 4294967295

pub recorded : {Q : Type 0} (d e : OfflineRun Q) → audit_count d < 2 ^ 32 → Drains d e → Records d e
recorded d e few drains = record {
  same = drains.same;
  sent = drains.sent;
  place = drains.places 1;
  stands = drains.stands;
  quiet = omega (arith, drains.waiting, few);
}

pub on_ok : {X E : Type 0} {P : Type 0} (r : Result X E) → P → OnOk r P
on_ok (Ok x) p = p
on_ok (Err e) p = tt
