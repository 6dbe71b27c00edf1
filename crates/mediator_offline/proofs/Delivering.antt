-- Messages that are pulled and written one after another.
use Rattle.std.proofs.Common.{◌≡◌, ℕ, ◌+◌, ◌*◌, ◌≤◌, ◌<◌, ◌^◌, Bool, true, false, cond, List, [], ◌∷◌, ◌++◌, length, take, drop, Option, Some, None, refl, sym, ap, ◌∙◌, subst, arith, length-append, length-drop}
use Rattle.std.specs.List.{concat}
use Rattle.std.specs.Io.KnownBytes.{Appends}
use Rattle.std.proofs.KnownBytes.{Appends-trans, Appends-nil}
use Rattle.std.proofs.Math.Seq.{take-append_seam}
use Rattle.std.proofs.lemmas.List.{take-append-drop, length-take}
use Rattle.ipfix_template.specs.DataRecord.{DataRecord}
use Rattle.subscriber_stream.specs.Shapes.{shapes_of, is_among, id_of}
use Rattle.subscriber_stream.specs.Parts.{Part, Announcement, Entry, parts, parts_at, records_of_parts}
use Rattle.subscriber_stream.specs.Message.{run_length, parts_taken, next_message, built, place_after}
use Rattle.subscriber_stream.specs.Calls.{message_if}
use Rattle.stream_meaning.specs.Served.{AreStreamable}
use Rattle.stream_meaning.proofs.Tables.{empty, AreKnown, after_parts}
use Rattle.stream_meaning.proofs.Sets.{known_split}
use Rattle.stream_meaning.proofs.Steps.{run_fits}
use Rattle.stream_meaning.proofs.Listed.{parts_known}
use Rattle.octet_io.specs.Written.{WritesFront}
use Rattle.subscriber_stream.specs.declared.limits.StreamLimits.{StreamLimits}
use Rattle.mediator_history.specs.Subscriptions.{is_live}
use Rattle.mediator_history.proofs.EntryLaws.{served_is_live}
use Rattle.mediator_tables.specs.declared.subscription.Subscription.{Subscription}
use Rattle.mediator_tables.specs.SubscriptionTable as table
use Rattle.mediator_state.specs.Standing.{IsLiveAs}
use Rattle.mediator_state.specs.Seen.{place_in, handed_place}
use Rattle.mediator_state.specs.Calls as calls
use Rattle.mediator_state.specs.Calls.{StateStandsFor}
use Rattle.sequences.specs.Before.{each_after}
use Rattle.event_journal.specs.declared.entry.Entry.{Entry as HistoryEntry}
use Rattle.mediator_history.specs.Auditing.{audit_list}
use Rattle.mediator_history.specs.Disclosed.{disclosed}
use Rattle.subscriber_stream.proofs.CallLaws.{run_some}
use Rattle.std.proofs.lemmas.Option.{same_Some}
use Rattle.sequences.proofs.ListLaws.{concat_push}
use Rattle.mediator_offline.specs.declared.run.OfflineRun.{OfflineRun}
use Rattle.mediator_offline.specs.Runs.{sizes_tell, audit_drained, RunStands, Small, IsServing, SameButState, KeepsAudit}
use Rattle.mediator_offline.specs.HandsOut.{HandsOutAll}
use Rattle.mediator_offline.proofs.Receiving.{within_end}
use Rattle.mediator_offline.specs.Offline.{end_of}
use Rattle.mediator_offline.specs.declared.job.Fault.{Fault}
use Rattle.mediator_offline.specs.declared.job.Fault.TheVariants.{Mediator}
use Rattle.mediator_state.specs.declared.fault.Fault.TheVariants as fault
use Rattle.mediator_offline.specs.Gathering.{and_gathered, IsGatheredFor, StopsGathered}
use Rattle.mediator_offline.specs.Pulling.{IsDeliveringRun, PullsMessage, Delivers, FailsDelivery}
use Rattle.mediator_offline.proofs.GatheringLaws.{none_gathered, gathered_more, more_written}

-- ---- a message is pulled

-- there was a part to take, and the message is short
pub record IsPulled (records : List DataRecord) (now target p : ℕ) (m : List ℕ) : Type 0 where
  pub goes_on : p < place_after records p target
  pub within : p ≤ length (parts records) → place_after records p target ≤ length (parts records)
  pub short : length m < 65536

pub pulled : (records : List DataRecord) (now target p : ℕ) (m : List ℕ) → AreStreamable records → target < 2 ^ 16 → built records p now target ≡ Some m → IsPulled records now target p m
unfolding next_message
pulled records now target p m streamable below is = at (drop p (parts records)) refl
  where
    at : (ps : List Part) → drop p (parts records) ≡ ps → IsPulled records now target p m
    at [] e = absurd (nothing is) where
      nothing : built records p now target ≡ Some m → ⊥
      nothing is = let none : next_message now target (length (records_of_parts (take p (parts records)))) [] ≡ Some m = ap (next_message now target (length (records_of_parts (take p (parts records))))) (sym e) ∙ is in absurd cc
    at (part ∷ ps) e = record { goes_on = some; within = within; short = short }
      where
        many : length (take (parts_taken records p target) (drop p (parts records))) ≡ length (take (run_length target (part ∷ ps)) (part ∷ ps))
        many = ap (λ qs. length (take (run_length target qs) qs)) e

        some : p < place_after records p target
        some = omega (arith, many, run_some target (part ∷ ps), length-take (run_length target (part ∷ ps)) (part ∷ ps))

        within : p ≤ length (parts records) → place_after records p target ≤ length (parts records)
        within le = omega (arith, le, length-take (parts_taken records p target) (drop p (parts records)), length-drop p (parts records))

        known : AreKnown (after_parts empty (take p (parts records))) (part ∷ ps)
        known = subst (AreKnown (after_parts empty (take p (parts records)))) e
            (known_split (take p (parts records)) (drop p (parts records)) empty (subst (AreKnown empty) (sym (take-append-drop p (parts records))) (parts_known records streamable))).1

        short : length m < 65536
        short = subst (λ x. length x < 65536) (same_Some _ m (ap (next_message now target (length (records_of_parts (take p (parts records))))) (sym e) ∙ is))
            (run_fits target now (length (records_of_parts (take p (parts records)))) (after_parts empty (take p (parts records))) part ps below known)

-- nothing is built exactly where all was handed out
pub at_end : (records : List DataRecord) (now target p : ℕ) → built records p now target ≡ None → p ≤ length (parts records) → p ≡ length (parts records)
unfolding next_message
at_end records now target p is le = at (drop p (parts records)) refl
  where
    at : (ps : List Part) → drop p (parts records) ≡ ps → p ≡ length (parts records)
    at [] e = omega (arith, ap length e, length-drop p (parts records), le)
    at (part ∷ ps) e = absurd (something (ap (next_message now target (length (records_of_parts (take p (parts records))))) (sym e) ∙ is)) where
      something : next_message now target (length (records_of_parts (take p (parts records)))) (part ∷ ps) ≡ None → ⊥
      something x = absurd cc

-- where nothing is built, a pull moves nothing
pub stays : (records : List DataRecord) (now target p : ℕ) → built records p now target ≡ None → p ≤ length (parts records) → place_after records p target ≡ p
stays records now target p is le =
    let end = at_end records now target p is le in
    omega (arith, length-take (parts_taken records p target) (drop p (parts records)), length-drop p (parts records), end)

-- each record has two parts at most
parts_after-few : (before records : List DataRecord) → length (each_after parts_at before records) ≤ 2 * length records
parts_after-few before [] = omega arith
parts_after-few before (r ∷ records) =
    omega (arith, parts_after-few (before ++ r ∷ []) records, two (is_among r.template (shapes_of before)), length-append (parts_at before r) (each_after parts_at (before ++ r ∷ []) records))
  where
    two : (b : Bool) → length (cond b (Entry (id_of r.template (shapes_of before)) r ∷ []) (Announcement (id_of r.template (shapes_of before)) r.template ∷ Entry (id_of r.template (shapes_of before)) r ∷ [])) ≤ 2
    two true = omega arith
    two false = omega arith

pub parts_few : (records : List DataRecord) → length (parts records) ≤ 2 * length records
unfolding parts
parts_few records = parts_after-few [] records

-- ---- messages one after another

pub hands-snoc : (records : List DataRecord) (now target p q : ℕ) (ms : List (List ℕ)) (m : List ℕ) → HandsOutAll records now target p ms q → built records q now target ≡ Some m
    → HandsOutAll records now target p (ms ++ m ∷ []) (place_after records q target)
hands-snoc records now target p q [] m hands is = (subst (λ x. built records x now target ≡ Some m) (sym hands) is, ap (λ x. place_after records x target) hands)
hands-snoc records now target p q (n ∷ ms) m hands is = (hands.0, hands-snoc records now target (place_after records p target) q ms m hands.1 is)

-- ---- a run that pulls

pub stands_on : {Q : Type 0} (d e : OfflineRun Q) (h : List HistoryEntry) (p q : ℕ) → RunStands d h p → SameButState d e → StateStandsFor sizes_tell e.state h → handed_place e.state.engine 1 ≡ q → RunStands e h q
stands_on d e h p q so same state here = record {
  state = state;
  place = here;
  serving = so.serving;
  alone = so.alone;
  opened = so.opened;
  limited = record { limits = same.limits ∙ so.limited.limits; audit = same.audit_limit ∙ so.limited.audit; journal = same.journal ∙ so.limited.journal };
  messages = same.messages ∙ so.messages;
  counted = so.counted;
  records = same.records ∙ so.records;
}

-- the parts that wait for the subscription
abbrev pub parts_in : Option Subscription → List Part
parts_in None = []
parts_in (Some s) = s.stream.standing.waiting

abbrev pub parts_waiting : {Q : Type 0} → OfflineRun Q → List Part
parts_waiting d = parts_in (table.at d.state.engine.subscriptions 1)

parts_behind : (h : List HistoryEntry) (limits : StreamLimits) (o : Option Subscription) → IsLiveAs h limits 1 o → is_live 1 h ≡ true → parts_in o ≡ drop (place_in o) (parts (disclosed 1 h))
parts_behind h limits None is live = absurd (no (sym is ∙ live))
  where
    no : false ≡ true → ⊥
    no e = absurd cc
parts_behind h limits (Some s) is live = is.stream.waiting

waits_behind : {Q : Type 0} (d : OfflineRun Q) (h : List HistoryEntry) (p : ℕ) → RunStands d h p → parts_waiting d ≡ drop p (parts (disclosed 1 h))
waits_behind d h p so =
    parts_behind h d.state.engine.limits (table.at d.state.engine.subscriptions 1) (so.state.stands.subscriptions 1) (served_is_live 1 h so.serving)
    ∙ ap (λ n. drop n (parts (disclosed 1 h))) so.place

-- what the state answers to a pull is what the run does
pub pulls_of : {Q : Type 0} (d e : OfflineRun Q) (m : Option (List ℕ)) → SameButState d e → calls.KeepsHistories sizes_tell d.state e.state → calls.ForEachHistory sizes_tell d.state (calls.PullsAfter d.state.engine e.state.engine 1 d.job.now d.job.target m) → PullsMessage d m e
pulls_of d e m same keeps got = record {
  message = λ h p so. (got h so.state).message ∙ ap (λ q. built (disclosed 1 h) q d.job.now d.job.target) so.place;
  stands = λ h p so.
      stands_on d e h p (place_after (disclosed 1 h) p d.job.target) so same (keeps h so.state) ((got h so.state).moved ∙ ap (λ q. place_after (disclosed 1 h) q d.job.target) so.place);
}

-- the same history and the same entries drained: as many wait
pub audit_kept : {Q : Type 0} (d e : OfflineRun Q) (h : List HistoryEntry) → StateStandsFor sizes_tell d.state h → StateStandsFor sizes_tell e.state h → audit_drained e ≡ audit_drained d → KeepsAudit d e
audit_kept d e h so then same = record { drained = same; waiting = then.stands.audit.waiting ∙ ap (λ (n : ℕ). length (drop n (audit_list h))) same ∙ sym so.stands.audit.waiting }

-- where a run has come to, from place p on
pub record IsAt {Q : Type 0} (old d : OfflineRun Q) (h : List HistoryEntry) (p : ℕ) (messages : List (List ℕ)) : Type 0 where
  pub place : ℕ
  pub hands : HandsOutAll (disclosed 1 h) old.job.now old.job.target p messages place
  pub stands : RunStands d h place
  pub few : old.sent ≤ 65535 * p → d.sent ≤ 65535 * place

-- these messages were pulled and written
pub record IsPulling {Q : Type 0} (old d : OfflineRun Q) (held holds : Option (List ℕ)) : Type 0 where
  pub messages : List (List ℕ)
  pub job : d.job ≡ old.job
  pub audit : KeepsAudit old d
  pub sent : d.sent ≡ old.sent + length (concat messages)
  pub written : Appends held holds (concat messages)
  pub handed : (h : List HistoryEntry) (p : ℕ) → RunStands old h p → Small h → IsAt old d h p messages

pub pulling_starts : {Q : Type 0} (d : OfflineRun Q) (held : Option (List ℕ)) → IsPulling d d held held
pulling_starts d held = record {
  messages = [];
  job = refl;
  audit = record { drained = refl; waiting = refl };
  sent = omega arith;
  written = Appends-nil held;
  handed = λ h p so small. record { place = p; hands = refl; stands = so; few = λ le. le };
}

pub streamable_of : (h : List HistoryEntry) → Small h → AreStreamable (disclosed 1 h)
streamable_of h small = small.streamable

-- what a pull answers, and what it leaves
pub record Pulled {Q : Type 0} (d e : OfflineRun Q) (answer : Option (List ℕ)) : Type 0 where
  pub same : SameButState d e
  pub sent : e.sent ≡ d.sent
  pub audit : KeepsAudit d e
  pub pulls : PullsMessage d answer e
  pub below : d.job.target < 2 ^ 16

audit_on : {Q : Type 0} (d e f : OfflineRun Q) → KeepsAudit d e → KeepsAudit e f → KeepsAudit d f
audit_on d e f a b = record { drained = b.drained ∙ a.drained; waiting = b.waiting ∙ a.waiting }

-- a message is written: the state stays
written_on : {Q : Type 0} (e f : OfflineRun Q) (h : List HistoryEntry) (p : ℕ) → SameButState e f → f.state ≡ e.state → RunStands e h p → RunStands f h p
written_on e f h p same state so = stands_on e f h p p so same (subst (λ s. StateStandsFor sizes_tell s h) (sym state) so.state) (ap (λ s. handed_place s.engine 1) state ∙ so.place)

-- one message more was pulled and written
pub turn : {Q : Type 0} (old d e f : OfflineRun Q) (held holds writes : Option (List ℕ)) (m : List ℕ) → IsPulling old d held holds → Pulled d e (Some m) → SameButState e f → f.state ≡ e.state
    → Appends holds writes m → f.sent ≡ e.sent + length m → IsPulling old f held writes
turn old d e f held holds writes m so p same state writing counting = record {
  messages = so.messages ++ m ∷ [];
  job = same.job ∙ p.same.job ∙ so.job;
  audit = audit_on old e f (audit_on old d e so.audit p.audit) (record { drained = ap (λ s. s.engine.audit.standing.drained) state; waiting = ap (λ s. s.engine.audit.standing.waiting) state });
  sent = omega (arith, so.sent, p.sent, counting, ap length (concat_push so.messages m), length-append (concat so.messages) m);
  written = subst (Appends held writes) (sym (concat_push so.messages m)) (Appends-trans held holds writes (concat so.messages) m so.written writing);
  handed = λ h q start small. next h q start small (so.handed h q start small);
}
  where
    next : (h : List HistoryEntry) (q : ℕ) → RunStands old h q → Small h → IsAt old d h q so.messages → IsAt old f h q (so.messages ++ m ∷ [])
    next h q start small at = record {
      place = place_after (disclosed 1 h) at.place d.job.target;
      hands = subst (λ target. HandsOutAll (disclosed 1 h) old.job.now old.job.target q (so.messages ++ m ∷ []) (place_after (disclosed 1 h) at.place target)) (sym (ap (λ j. j.target) so.job))
          (hands-snoc (disclosed 1 h) old.job.now old.job.target q at.place so.messages m at.hands is);
      stands = written_on e f h (place_after (disclosed 1 h) at.place d.job.target) same state (p.pulls.stands h at.place at.stands);
      few = λ le. omega (arith, at.few le, p.sent, counting, found.short, found.goes_on);
    }
      where
        here : built (disclosed 1 h) at.place d.job.now d.job.target ≡ Some m
        here = sym (p.pulls.message h at.place at.stands)

        is : built (disclosed 1 h) at.place old.job.now old.job.target ≡ Some m
        is = ap (λ j. built (disclosed 1 h) at.place j.now j.target) (sym so.job) ∙ here

        found : IsPulled (disclosed 1 h) d.job.now d.job.target at.place m
        found = pulled (disclosed 1 h) d.job.now d.job.target at.place m small.streamable p.below here

-- nothing waits: all was written
pub turn_ends : {Q : Type 0} (old d e : OfflineRun Q) (held holds : Option (List ℕ)) → IsPulling old d held holds → Pulled d e None → Delivers old e held holds
turn_ends old d e held holds so p = record {
  job = p.same.job ∙ so.job;
  audit = audit_on old d e so.audit p.audit;
  messages = so.messages;
  handed = λ h q start small. next h q start small (so.handed h q start small);
  written = so.written;
  sent = p.sent ∙ so.sent;
  few = λ q le h start small. few q le h start small (so.handed h q start small);
}
  where
    end : (h : List HistoryEntry) (q : ℕ) (at : IsAt old d h q so.messages) → at.place ≡ end_of h
    end h q at = at_end (disclosed 1 h) d.job.now d.job.target at.place (sym (p.pulls.message h at.place at.stands)) (within_end d h at.place at.stands)

    next : (h : List HistoryEntry) (q : ℕ) → RunStands old h q → Small h → IsAt old d h q so.messages → HandsOutAll (disclosed 1 h) old.job.now old.job.target q so.messages (end_of h) × RunStands e h (end_of h)
    next h q start small at = (
      subst (HandsOutAll (disclosed 1 h) old.job.now old.job.target q so.messages) (end h q at) at.hands,
      subst (RunStands e h) (after ∙ end h q at) (p.pulls.stands h at.place at.stands),
    )
      where
        after : place_after (disclosed 1 h) at.place d.job.target ≡ at.place
        after = stays (disclosed 1 h) d.job.now d.job.target at.place (sym (p.pulls.message h at.place at.stands)) (within_end d h at.place at.stands)

    few : (q : ℕ) → old.sent ≤ 65535 * q → (h : List HistoryEntry) → RunStands old h q → Small h → IsAt old d h q so.messages → e.sent ≤ 65535 * end_of h
    few q le h start small at = omega (arith, p.sent, at.few le, end h q at)

-- where the run of a turn stands, and the message of that place
record IsTurn {Q : Type 0} (old d : OfflineRun Q) (start : IsDeliveringRun old) (messages : List (List ℕ)) (m : List ℕ) : Type 0 where
  at : IsAt old d start.history start.place messages
  here : built (disclosed 1 start.history) at.place d.job.now d.job.target ≡ Some m
  found : IsPulled (disclosed 1 start.history) d.job.now d.job.target at.place m

turn_at : {Q : Type 0} (old d e : OfflineRun Q) (held holds : Option (List ℕ)) (m : List ℕ) (start : IsDeliveringRun old) (so : IsPulling old d held holds) → Pulled d e (Some m) → IsTurn old d start so.messages m
turn_at old d e held holds m start so p =
    let at = so.handed start.history start.place start.stands start.small in
    let here = sym (p.pulls.message start.history at.place at.stands) in
    record { at = at; here = here; found = pulled (disclosed 1 start.history) d.job.now d.job.target at.place m start.small.streamable p.below here }

-- a message is short, and what was sent before it is little
pub turn_fits : {Q : Type 0} (old d e : OfflineRun Q) (held holds : Option (List ℕ)) (m : List ℕ) → IsDeliveringRun old → IsPulling old d held holds → Pulled d e (Some m) → e.sent + length m < 2 ^ 64
turn_fits old d e held holds m start so p =
    let t = turn_at old d e held holds m start so p in
    omega (arith, p.sent, t.at.few start.sent, within_end d start.history t.at.place t.at.stands, t.found.short, parts_few (disclosed 1 start.history), start.small.listed, start.small.entries)

pub turn_serves : {Q : Type 0} (old d : OfflineRun Q) (held holds : Option (List ℕ)) → IsDeliveringRun old → IsPulling old d held holds → IsServing d
turn_serves old d held holds start so =
    let at = so.handed start.history start.place start.stands start.small in
    record { history = start.history; place = at.place; stands = at.stands }

-- each turn leaves fewer parts
pub turn_smaller : {Q : Type 0} (old d e f : OfflineRun Q) (held holds : Option (List ℕ)) (m : List ℕ) → IsDeliveringRun old → IsPulling old d held holds → Pulled d e (Some m) → f.state ≡ e.state
    → length (parts_waiting f) < length (parts_waiting d)
turn_smaller old d e f held holds m start so p state =
    let t = turn_at old d e held holds m start so p in
    let h = start.history in
    let q = place_after (disclosed 1 h) t.at.place d.job.target in
    omega (
      arith,
      ap (λ s. length (parts_in (table.at s.engine.subscriptions 1))) state,
      ap length (waits_behind d h t.at.place t.at.stands),
      ap length (waits_behind e h q (p.pulls.stands h t.at.place t.at.stands)),
      within_end e h q (p.pulls.stands h t.at.place t.at.stands),
      t.found.goes_on,
      length-drop t.at.place (parts (disclosed 1 h)),
      length-drop q (parts (disclosed 1 h)),
    )

-- ---- what is gathered, and is written

-- what stood in front stays there
pub front_stays : {Q : Type 0} (old d : OfflineRun Q) (before text : List ℕ) → IsPulling old d (Some before) (Some text) → take (length before) text ≡ before
front_stays old d before text so = ap (take (length before)) so.written ∙ take-append_seam before (concat so.messages)

-- all was gathered behind what waited to be written
pub delivers_gathered : {Q : Type 0} (old new : OfflineRun Q) (written : Option (List ℕ)) (before gathered : List ℕ) → Delivers old new (Some before) (Some gathered) → Delivers old new (and_gathered written before) (and_gathered written gathered)
delivers_gathered old new written before gathered d = record {
  job = d.job;
  audit = d.audit;
  messages = d.messages;
  handed = d.handed;
  written = gathered_more written before gathered (concat d.messages) d.written;
  sent = d.sent;
  few = d.few;
}

-- and written
pub delivers_written : {Q : Type 0} (old new : OfflineRun Q) (held holds : Option (List ℕ)) (before gathered left : List ℕ) → Delivers old new (Some before) (Some gathered) → Appends held holds gathered → left ≡ [] → Delivers old new (and_gathered held before) (and_gathered holds left)
delivers_written old new held holds before gathered left d writing none = record {
  job = d.job;
  audit = d.audit;
  messages = d.messages;
  handed = d.handed;
  written = more_written held holds before gathered left (concat d.messages) d.written writing none;
  sent = d.sent;
  few = d.few;
}

pub delivers_counts : {Q : Type 0} (old new : OfflineRun Q) (before gathered : List ℕ) → IsGatheredFor old before → Delivers old new (Some before) (Some gathered) → length gathered ≤ new.sent
delivers_counts old new before gathered so d = omega (arith, so.counted, d.sent, ap (λ (t : List ℕ). length t) d.written, length-append before (concat d.messages))

-- the writer failed
pub write_fails : {Q : Type 0} (old new : OfflineRun Q) (held holds : Option (List ℕ)) (before gathered left : List ℕ) (e : Fault) (failed : Bool) → IsGatheredFor old before → Delivers old new (Some before) (Some gathered) → StopsGathered e new.sent gathered held holds failed → left ≡ []
    → FailsDelivery e old before held (and_gathered holds left) failed
write_fails old new held holds before gathered left e failed so d stops none = rw stops.is (record {
  messages = d.messages;
  handed = λ h p stands small. (end_of h, (d.handed h p stands small).0);
  stops = (
    stops.front,
    omega (arith, delivers_counts old new before gathered so d, so.counted, d.sent, ap (λ (t : List ℕ). length t) d.written, length-append before (concat d.messages)),
    subst (λ w. WritesFront held w (before ++ concat d.messages) stops.front failed) (sym (ap (and_gathered holds) none ∙ none_gathered holds))
        (subst (λ t. WritesFront held holds t stops.front failed) d.written stops.inside),
  );
})

-- memory ran out, and nothing more was gathered
pub memory_fails : {Q : Type 0} (old : OfflineRun Q) (held : Option (List ℕ)) (before left : List ℕ) (e : Fault) (failed : Bool) → e ≡ Mediator fault.OutOfMemory → left ≡ before → FailsDelivery e old before held (and_gathered held left) failed
memory_fails old held before left e failed is same = rw is (record {
  messages = [];
  handed = λ h p so small. (p, refl);
  stops = subst (λ t. Appends (and_gathered held before) (and_gathered held t) []) (sym same) (Appends-nil (and_gathered held before));
})

-- whether there was a message
pub pulled_some : {Q : Type 0} (d e : OfflineRun Q) (there : Bool) (m : List ℕ) → there ≡ true → Pulled d e (message_if there m) → Pulled d e (Some m)
pulled_some d e there m is p = subst (λ b. Pulled d e (message_if b m)) is p

pub pulled_none : {Q : Type 0} (d e : OfflineRun Q) (there : Bool) (m : List ℕ) → there ≡ false → Pulled d e (message_if there m) → Pulled d e None
pulled_none d e there m is p = subst (λ b. Pulled d e (message_if b m)) is p
