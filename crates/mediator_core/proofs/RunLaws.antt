-- What holds of every run, by induction from its front.
use Rattle.std.proofs.Common.{◌≡◌, ℕ, zero, suc, ◌+◌, ◌<◌, ◌≤◌, Bool, true, false, cond, List, [], ◌∷◌, ◌++◌, length, map, take, drop, Option, Some, None, refl, sym, ap, ◌∙◌, subst, append_assoc, append-nil, arith, length-append, length-take, length-drop}
use Rattle.std.specs.Prelude.{filter}
use Rattle.std.proofs.lemmas.List.{take-append-drop, drop-drop}
use Rattle.std.proofs.lemmas.List.Elements.{filter-append}
use Rattle.sequences.specs.Before.{each_after}
use Rattle.sequences.proofs.BeforeLaws.{each_with_before-append}
use Rattle.ipfix_template.specs.DataRecord.{DataRecord}
use Rattle.subscriber_stream.specs.Parts.{parts, records_of_parts}
use Rattle.subscriber_stream.specs.Calls.{Pull as Asked, octets_from}
use Rattle.subscriber_stream.specs.Message.{built, place_after}
use Rattle.subscriber_stream.proofs.CallLaws.{parts_bring}
use Rattle.subscriber_stream.proofs.Standings.{records_in-append}
use Rattle.stream_meaning.specs.Served.{AreStreamable, AreInRange, pulls, messages_in, place_from}
use Rattle.stream_meaning.specs.Means.{Means}
use Rattle.stream_meaning.specs.HandedOut.{AreHandedOut}
use Rattle.stream_meaning.proofs.Handing.{handed_answer, handed_means, handed_whole}
use Rattle.disclosure_audit.specs.declared.entry.AuditEntry.{AuditEntry}
use Rattle.event_journal.specs.declared.entry.Entry.{Entry}
use Rattle.event_journal.specs.declared.entry.Entry.TheVariants.{Message, Advance, Cut}
use Rattle.mediator_history.specs.Subscriptions.{is_live, served}
use Rattle.mediator_history.specs.Cuts.{is_cut_by}
use Rattle.mediator_history.specs.Disclosed.{disclosed}
use Rattle.mediator_history.specs.Auditing.{audit_at, audit_list}
use Rattle.mediator_calls.specs.declared.limits.Limits.{Limits}
use Rattle.mediator_calls.specs.declared.call.Call.{Call}
use Rattle.mediator_calls.specs.declared.call.Call.TheVariants as call
use Rattle.mediator_calls.specs.declared.call.Reply.{Reply}
use Rattle.mediator_calls.specs.declared.call.Reply.TheVariants as reply
use Rattle.mediator_calls.specs.Mediation.{Mediation, started, place_at, waiting_at, noted_at, stream_limits}
use Rattle.mediator_calls.specs.Calls.{GoesOn, with_cuts, Drains}
use Rattle.mediator_core.specs.Runs.{Answers, Runs, entry_in, accepted_entries, is_of_call, answer_in, answers_to, handed_to, GiveUntilNone, MeanFront, drained_in, drained_by, asked_in, Ask}
use Rattle.mediator_core.specs.Headline.{IsBuiltFromDisclosed}
use Rattle.mediator_calls.specs.Sound.{IsSoundMediation}
use Rattle.mediator_core.proofs.Holding.{Holds, holds_first, HoldsAfter, holds_after}

-- ---- lists of answers

abbrev Answered : Type 0
Answered = List (Option (List ℕ))

messages_append : (xs ys : Answered) → messages_in (xs ++ ys) ≡ messages_in xs ++ messages_in ys
messages_append [] ys = refl
messages_append (None ∷ xs) ys = messages_append xs ys
messages_append (Some m ∷ xs) ys = ap (λ (ms : List (List ℕ)). m ∷ ms) (messages_append xs ys)

place_append : (xs ys : List Asked) (p : ℕ) → place_from p (xs ++ ys) ≡ place_from (place_from p xs) ys
place_append [] ys p = refl
place_append (x ∷ xs) ys p = place_append xs ys (place_after x.records p x.target)

octets_append : (xs ys : List Asked) (p : ℕ) → octets_from p (xs ++ ys) ≡ octets_from p xs ++ octets_from (place_from p xs) ys
octets_append [] ys p = refl
octets_append (x ∷ xs) ys p = ap (λ (answers : Answered). built x.records p x.now x.target ∷ answers) (octets_append xs ys (place_after x.records p x.target))

-- ---- a subscription's messages

pub record HoldsAtEnd (sub : ℕ) (old : Mediation) (calls : List Call) (replies : List Reply) (new : Mediation) (messages : List (List ℕ)) (p : ℕ) : Type 0 where
  pub asked : List Asked
  pub ask : Ask sub old calls replies new asked
  pub answers : answers_to sub calls replies ≡ octets_from p asked
  pub after : Holds sub new (messages ++ handed_to sub calls replies) (place_from p asked)

-- a call before others
joined : (sub : ℕ) (old mid new : Mediation) (c : Call) (r : Reply) (calls : List Call) (replies : List Reply) (messages : List (List ℕ)) (p : ℕ) → Answers old c r mid → HoldsAfter sub old c r mid messages p
    → HoldsAtEnd sub mid calls replies new (messages ++ messages_in (answer_in sub c r)) (place_from p (asked_in sub old c r)) → HoldsAtEnd sub old (c ∷ calls) (r ∷ replies) new messages p
joined sub old mid new c r calls replies messages p is one others =
    let first : List Asked = asked_in sub old c r in
    record {
      asked = first ++ others.asked;
      ask = (mid, others.asked, is, refl, others.ask);
      answers = ap (λ (a : Answered). a ++ answers_to sub calls replies) one.answers ∙ ap (λ (a : Answered). octets_from p first ++ a) others.answers ∙ sym (octets_append first others.asked p);
      after = subst (λ (ms : List (List ℕ)). Holds sub new ms (place_from p (first ++ others.asked)))
          (append_assoc messages (messages_in (answer_in sub c r)) (handed_to sub calls replies) ∙ ap (λ (ms : List (List ℕ)). messages ++ ms) (sym (messages_append (answer_in sub c r) (answers_to sub calls replies))))
          (subst (λ (q : ℕ). Holds sub new ((messages ++ messages_in (answer_in sub c r)) ++ handed_to sub calls replies) q) (sym (place_append first others.asked p)) others.after);
    }

pub holds_at_end : (sub : ℕ) (calls : List Call) (replies : List Reply) (old new : Mediation) (messages : List (List ℕ)) (p : ℕ) → Runs old calls replies new → Holds sub old messages p → HoldsAtEnd sub old calls replies new messages p
holds_at_end sub [] [] old new messages p run h = record {
  asked = [];
  ask = (run, refl);
  answers = refl;
  after = subst (λ (ms : List (List ℕ)). Holds sub new ms p) (sym (append-nil messages)) (subst (λ (m : Mediation). Holds sub m messages p) (sym run) h);
}
holds_at_end sub [] (r ∷ replies) old new messages p run h = absurd run
holds_at_end sub (c ∷ calls) [] old new messages p run h = absurd run
holds_at_end sub (c ∷ calls) (r ∷ replies) old new messages p run h =
    let one : HoldsAfter sub old c r run.0 messages p = holds_after sub old c r run.0 messages p run.1 h in
    joined sub old run.0 new c r calls replies messages p run.1 one
    (holds_at_end sub calls replies run.0 new (messages ++ messages_in (answer_in sub c r)) (place_from p (asked_in sub old c r)) run.2 one.after)

-- from the start
at_end : (sub : ℕ) (limits : Limits) (calls : List Call) (replies : List Reply) (new : Mediation) → Runs (started limits) calls replies new → HoldsAtEnd sub (started limits) calls replies new [] 0
at_end sub limits calls replies new run = holds_at_end sub calls replies (started limits) new [] 0 run (holds_first limits sub)

pub built_from_disclosed : (sub : ℕ) (limits : Limits) (calls : List Call) (replies : List Reply) (new : Mediation) → Runs (started limits) calls replies new → IsBuiltFromDisclosed sub (started limits) calls replies new
built_from_disclosed sub limits calls replies new run = let all = at_end sub limits calls replies new run in record { asked = all.asked; ask = all.ask; answers = all.answers }

-- ---- what the messages mean

until_none : (turns : List (ℕ × ℕ)) (more messages : List (List ℕ)) (records : List DataRecord) (p : ℕ) → AreStreamable records → AreInRange (pulls turns) → AreHandedOut messages records p → GiveUntilNone records p turns more → Means (messages ++ more) records
until_none [] more messages records p may ranges are give = absurd give
until_none (turn ∷ turns) [] messages records p may ranges are give =
    subst (λ (ms : List (List ℕ)). Means ms records) (sym (append-nil messages)) (handed_whole messages records p turn.0 turn.1 are may give)
until_none (turn ∷ turns) (message ∷ more) messages records p may ranges are give =
    let some : Option (List ℕ) = Some message in
    subst (λ (ms : List (List ℕ)). Means ms records) (append_assoc messages (message ∷ []) more)
    (until_none turns more (messages ++ message ∷ []) records (place_after records p turn.1) may ranges.1 (handed_answer messages some records p turn.0 turn.1 ranges.0.0 ranges.0.1 are (sym give.0)) give.1)

pub handed_is_disclosed : (limits : Limits) (calls : List Call) (replies : List Reply) (new : Mediation) → Runs (started limits) calls replies new → IsSoundMediation new
    → (sub : ℕ) (turns : List (ℕ × ℕ)) (more : List (List ℕ)) → is_live sub new.history ≡ true → AreInRange (pulls turns) → GiveUntilNone (disclosed sub new.history) (place_at new sub) turns more
    → Means (handed_to sub calls replies ++ more) (disclosed sub new.history)
handed_is_disclosed limits calls replies new run sound sub turns more live ranges give =
    let all = at_end sub limits calls replies new run in
    let place : place_from 0 all.asked ≡ place_at new sub = all.after.place live in
    until_none turns more (handed_to sub calls replies) (disclosed sub new.history) (place_at new sub) (sound.streamable sub) ranges
    (subst (λ (p : ℕ). AreHandedOut (handed_to sub calls replies) (disclosed sub new.history) p) place all.after.handed) give

mean_front : (messages : List (List ℕ)) (records : List DataRecord) (p : ℕ) → AreHandedOut messages records p → AreStreamable records → MeanFront messages records
mean_front messages records p are may = record {
  front = records_of_parts (take p (parts records));
  rest = records_of_parts (drop p (parts records));
  list_is = sym (parts_bring records) ∙ ap records_of_parts (sym (take-append-drop p (parts records))) ∙ records_in-append (take p (parts records)) (drop p (parts records));
  means = handed_means messages records p are may;
}

pub handed_is_front : (limits : Limits) (calls : List Call) (replies : List Reply) (new : Mediation) → Runs (started limits) calls replies new → IsSoundMediation new → (sub : ℕ) → MeanFront (handed_to sub calls replies) (disclosed sub new.history)
handed_is_front limits calls replies new run sound sub =
    let all = at_end sub limits calls replies new run in
    mean_front (handed_to sub calls replies) (disclosed sub new.history) (place_from 0 all.asked) all.after.handed (sound.streamable sub)

-- ---- the entries of calls

no_call : (subs : List ℕ) (e : Entry) → is_of_call e ≡ true → filter is_of_call (map Cut subs ++ e ∷ []) ≡ e ∷ []
no_call [] e is = rw is refl
no_call (sub ∷ subs) e is = no_call subs e is

entries_on : (old new : Mediation) (more entries : List Entry) → GoesOn old more new → filter is_of_call more ≡ entries → filter is_of_call new.history ≡ filter is_of_call old.history ++ entries
entries_on old new more entries on is = ap (filter is_of_call) on.history ∙ filter-append is_of_call old.history more ∙ ap (λ (es : List Entry). filter is_of_call old.history ++ es) is

none_added : (old new : Mediation) → new.history ≡ old.history → filter is_of_call new.history ≡ filter is_of_call old.history ++ []
none_added old new same = ap (filter is_of_call) same ∙ sym (append-nil (filter is_of_call old.history))

refused_adds : (old new : Mediation) → new ≡ old → filter is_of_call new.history ≡ filter is_of_call old.history ++ []
refused_adds old new same = none_added old new (ap (λ (m : Mediation). m.history) same)

with_cuts_adds : (old new : Mediation) (e : Entry) → is_of_call e ≡ true → GoesOn old (with_cuts old e) new → filter is_of_call new.history ≡ filter is_of_call old.history ++ e ∷ []
with_cuts_adds old new e is on = entries_on old new (with_cuts old e) (e ∷ []) on (no_call (filter (is_cut_by (stream_limits old.limits) old.history e (waiting_at old)) (served old.history)) e is)

entry_added : (old : Mediation) (c : Call) (r : Reply) (new : Mediation) → Answers old c r new → filter is_of_call new.history ≡ filter is_of_call old.history ++ entry_in c r
entry_added old call.Open (reply.Opened session) new is = entries_on old new _ _ is.goes_on refl
entry_added old (call.Close session) reply.Closed new is = entries_on old new _ _ is.goes_on refl
entry_added old (call.Receive session number message) (reply.Received receipt) new is = with_cuts_adds old new (Message session.0 number message) refl is.goes_on
entry_added old (call.Edit text) (reply.Edited revision) new is = entries_on old new _ _ is.goes_on refl
entry_added old (call.Subscribe name) (reply.Subscribed sub) new is = entries_on old new _ _ is.goes_on refl
entry_added old (call.Unsubscribe sub) reply.Unsubscribed new is = entries_on old new _ _ is.goes_on refl
entry_added old (call.Advance t) reply.Advanced new is = with_cuts_adds old new (Advance t) refl is.goes_on
entry_added old (call.Pull sub now target) (reply.Pulled answer) new is = none_added old new is.history
entry_added old (call.Status sub) (reply.Stands status) new is = refused_adds old new is.1
entry_added old (call.DrainAudit most) (reply.Drained out) new is = none_added old new is.history
entry_added old call.Open (reply.Refused why) new is = refused_adds old new is.1
entry_added old (call.Close session) (reply.Refused why) new is = refused_adds old new is.1
entry_added old (call.Receive session number message) (reply.Refused why) new is = refused_adds old new is.1
entry_added old (call.Edit text) (reply.Refused why) new is = refused_adds old new is.1
entry_added old (call.Subscribe name) (reply.Refused why) new is = refused_adds old new is.1
entry_added old (call.Unsubscribe sub) (reply.Refused why) new is = refused_adds old new is.1
entry_added old (call.Advance t) (reply.Refused why) new is = refused_adds old new is.1
entry_added old (call.Pull sub now target) (reply.Refused why) new is = refused_adds old new is.1
entry_added old (call.Status sub) (reply.Refused why) new is = refused_adds old new is.1
entry_added old (call.DrainAudit most) (reply.Refused why) new is = refused_adds old new is.1
entry_added old _ _ new is = absurd is

entries_added : (calls : List Call) (replies : List Reply) (old new : Mediation) → Runs old calls replies new → filter is_of_call new.history ≡ filter is_of_call old.history ++ accepted_entries calls replies
entries_added [] [] old new run = refused_adds old new run
entries_added [] (r ∷ replies) old new run = absurd run
entries_added (c ∷ calls) [] old new run = absurd run
entries_added (c ∷ calls) (r ∷ replies) old new run =
    entries_added calls replies run.0 new run.2
    ∙ ap (λ (es : List Entry). es ++ accepted_entries calls replies) (entry_added old c r run.0 run.1)
    ∙ append_assoc (filter is_of_call old.history) (entry_in c r) (accepted_entries calls replies)

pub history_is_the_calls : (limits : Limits) (calls : List Call) (replies : List Reply) (new : Mediation) → Runs (started limits) calls replies new → filter is_of_call new.history ≡ accepted_entries calls replies
history_is_the_calls limits calls replies new run = entries_added calls replies (started limits) new run

-- ---- what was drained

-- these entries were drained, and with those that wait they are the audit list
record IsDrained (m : Mediation) (out : List AuditEntry) : Type 0 where
  pub whole : out ++ noted_at m ≡ audit_list m.history
  pub within : m.drained ≤ length (audit_list m.history)

drop_front : {A : Type 0} (n : ℕ) (xs ys : List A) → n ≤ length xs → drop n (xs ++ ys) ≡ drop n xs ++ ys
drop_front zero xs ys le = refl
drop_front (suc n) [] ys le = absurd (omega (arith, le))
drop_front (suc n) (x ∷ xs) ys le = drop_front n xs ys (omega (arith, le))

drained_on : (old new : Mediation) (more : List Entry) (out : List AuditEntry) → GoesOn old more new → IsDrained old out → IsDrained new (out ++ [])
drained_on old new more out on d =
    let was : List AuditEntry = audit_list old.history in
    let noted : List AuditEntry = each_after audit_at old.history more in
    let list : audit_list new.history ≡ was ++ noted = ap audit_list on.history ∙ each_with_before-append audit_at old.history more in
    record {
      whole = ap (λ (o : List AuditEntry). o ++ noted_at new) (append-nil out)
          ∙ ap (λ (n : ℕ). out ++ drop n (audit_list new.history)) on.drained
          ∙ ap (λ (l : List AuditEntry). out ++ drop old.drained l) list
          ∙ ap (λ (l : List AuditEntry). out ++ l) (drop_front old.drained was noted d.within)
          ∙ sym (append_assoc out (noted_at old) noted)
          ∙ ap (λ (l : List AuditEntry). l ++ noted) d.whole
          ∙ sym list;
      within = omega (arith, on.drained, d.within, ap (λ (l : List AuditEntry). length l) list, length-append was noted);
    }

drained_same : (old new : Mediation) (out : List AuditEntry) → new.history ≡ old.history → new.drained ≡ old.drained → IsDrained old out → IsDrained new (out ++ [])
drained_same old new out history drained d = record {
  whole = ap (λ (o : List AuditEntry). o ++ noted_at new) (append-nil out) ∙ ap (λ (n : ℕ). out ++ drop n (audit_list new.history)) drained ∙ ap (λ (h : List Entry). out ++ drop old.drained (audit_list h)) history ∙ d.whole ∙ ap audit_list (sym history);
  within = omega (arith, drained, d.within, ap (λ (h : List Entry). length (audit_list h)) history);
}

-- what was taken, and what is left without as many
take_drop : {A : Type 0} (n : ℕ) (xs : List A) → take n xs ++ drop (length (take n xs)) xs ≡ xs
take_drop zero xs = refl
take_drop (suc n) [] = refl
take_drop {A} (suc n) (x ∷ xs) = ap (λ (t : List A). x ∷ t) (take_drop n xs)

drained_more : (old new : Mediation) (most : ℕ) (more out : List AuditEntry) → Drains old most more new → IsDrained old out → IsDrained new (out ++ more)
drained_more old new most more out is d =
    let waiting : List AuditEntry = noted_at old in
    let left : drop new.drained (audit_list new.history) ≡ drop (length (take most waiting)) waiting =
    ap (λ (n : ℕ). drop n (audit_list new.history)) is.drained
    ∙ ap (λ (h : List Entry). drop (old.drained + length more) (audit_list h)) is.history
    ∙ sym (drop-drop (length more) old.drained (audit_list old.history))
    ∙ ap (λ (l : List AuditEntry). drop (length l) waiting) is.entries in
    record {
      whole = append_assoc out more (noted_at new)
          ∙ ap (λ (l : List AuditEntry). out ++ (more ++ l)) left
          ∙ ap (λ (l : List AuditEntry). out ++ (l ++ drop (length (take most waiting)) waiting)) is.entries
          ∙ ap (λ (l : List AuditEntry). out ++ l) (take_drop most waiting)
          ∙ d.whole
          ∙ ap audit_list (sym is.history);
      within = omega (arith, is.drained, d.within, ap (λ (l : List AuditEntry). length l) is.entries, length-take most waiting, length-drop old.drained (audit_list old.history), ap (λ (h : List Entry). length (audit_list h)) is.history);
    }

drained_refused : (old new : Mediation) (out : List AuditEntry) → new ≡ old → IsDrained old out → IsDrained new (out ++ [])
drained_refused old new out same d = drained_same old new out (ap (λ (m : Mediation). m.history) same) (ap (λ (m : Mediation). m.drained) same) d

drained_after : (old : Mediation) (c : Call) (r : Reply) (new : Mediation) (out : List AuditEntry) → Answers old c r new → IsDrained old out → IsDrained new (out ++ drained_in c r)
drained_after old call.Open (reply.Opened session) new out is d = drained_on old new _ out is.goes_on d
drained_after old (call.Close session) reply.Closed new out is d = drained_on old new _ out is.goes_on d
drained_after old (call.Receive session number message) (reply.Received receipt) new out is d = drained_on old new _ out is.goes_on d
drained_after old (call.Edit text) (reply.Edited revision) new out is d = drained_on old new _ out is.goes_on d
drained_after old (call.Subscribe name) (reply.Subscribed sub) new out is d = drained_on old new _ out is.goes_on d
drained_after old (call.Unsubscribe sub) reply.Unsubscribed new out is d = drained_on old new _ out is.goes_on d
drained_after old (call.Advance t) reply.Advanced new out is d = drained_on old new _ out is.goes_on d
drained_after old (call.Pull sub now target) (reply.Pulled answer) new out is d = drained_same old new out is.history is.drained d
drained_after old (call.Status sub) (reply.Stands status) new out is d = drained_refused old new out is.1 d
drained_after old (call.DrainAudit most) (reply.Drained more) new out is d = drained_more old new most more.items out is d
drained_after old call.Open (reply.Refused why) new out is d = drained_refused old new out is.1 d
drained_after old (call.Close session) (reply.Refused why) new out is d = drained_refused old new out is.1 d
drained_after old (call.Receive session number message) (reply.Refused why) new out is d = drained_refused old new out is.1 d
drained_after old (call.Edit text) (reply.Refused why) new out is d = drained_refused old new out is.1 d
drained_after old (call.Subscribe name) (reply.Refused why) new out is d = drained_refused old new out is.1 d
drained_after old (call.Unsubscribe sub) (reply.Refused why) new out is d = drained_refused old new out is.1 d
drained_after old (call.Advance t) (reply.Refused why) new out is d = drained_refused old new out is.1 d
drained_after old (call.Pull sub now target) (reply.Refused why) new out is d = drained_refused old new out is.1 d
drained_after old (call.Status sub) (reply.Refused why) new out is d = drained_refused old new out is.1 d
drained_after old (call.DrainAudit most) (reply.Refused why) new out is d = drained_refused old new out is.1 d
drained_after old _ _ new out is d = absurd is

drained_at_end : (calls : List Call) (replies : List Reply) (old new : Mediation) (out : List AuditEntry) → Runs old calls replies new → IsDrained old out → IsDrained new (out ++ drained_by calls replies)
drained_at_end [] [] old new out run d = drained_refused old new out run d
drained_at_end [] (r ∷ replies) old new out run d = absurd run
drained_at_end (c ∷ calls) [] old new out run d = absurd run
drained_at_end (c ∷ calls) (r ∷ replies) old new out run d =
    subst (IsDrained new) (append_assoc out (drained_in c r) (drained_by calls replies))
    (drained_at_end calls replies run.0 new (out ++ drained_in c r) run.2 (drained_after old c r run.0 out run.1 d))

pub drained_is_audited : (limits : Limits) (calls : List Call) (replies : List Reply) (new : Mediation) → Runs (started limits) calls replies new → drained_by calls replies ++ noted_at new ≡ audit_list new.history
drained_is_audited limits calls replies new run = (drained_at_end calls replies (started limits) new [] run (record { whole = refl; within = omega arith })).whole

-- ---- a run in turns

-- no call is left
pub run_goes_on : (start old now : Mediation) (calls left rest : List Call) (call : Call) (replies new : List Reply) (reply : Reply) → left ≡ call ∷ rest → new ≡ replies ++ reply ∷ [] → Answers old call reply now
    → ((later : List Reply) (end : Mediation) → Runs old left later end → Runs start calls (replies ++ later) end) → (later : List Reply) (end : Mediation) → Runs now rest later end → Runs start calls (new ++ later) end
run_goes_on start old now calls left rest call replies new reply is grown answers so_far later end runs =
    let here : Runs old left (reply ∷ later) end = subst (λ (cs : List Call). Runs old cs (reply ∷ later) end) (sym is) (now, answers, runs) in
    let joined : replies ++ reply ∷ later ≡ new ++ later = sym (ap (λ (rs : List Reply). rs ++ later) grown ∙ append_assoc replies (reply ∷ []) later) in
    subst (λ (rs : List Reply). Runs start calls rs end) joined (so_far (reply ∷ later) end here)

pub run_ends : (old now : Mediation) (calls : List Call) (replies : List Reply) (left : List Call) → left ≡ [] → ((later : List Reply) (end : Mediation) → Runs now left later end → Runs old calls (replies ++ later) end) → Runs old calls replies now
run_ends old now calls replies left none so_far =
    subst (λ (rs : List Reply). Runs old calls rs now) (append-nil replies) (so_far [] now (subst (λ (cs : List Call). Runs now cs [] now) (sym none) refl))
