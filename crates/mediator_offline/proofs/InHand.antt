-- A message that is handled, in a run over messages.
use Rattle.std.proofs.Common.{◌≡◌, ℕ, ◌+◌, ◌*◌, ◌≤◌, ◌<◌, ◌^◌, Bool, true, false, List, [], ◌∷◌, ◌++◌, length, take, Option, Some, None, refl, sym, ap, ◌∙◌, subst, arith, append-nil, append_assoc, length-append}
use Rattle.std.specs.Prelude.{is_some, IfSome}
use Rattle.std.specs.List.{concat}
use Rattle.std.specs.Io.KnownBytes.{Appends}
use Rattle.std.proofs.KnownBytes.{Appends-trans, Appends-nil}
use Rattle.std.proofs.lemmas.List.Folds.{concat-append}
use Rattle.ipfix_template.specs.DataRecord.{DataRecord}
use Rattle.subscriber_stream.specs.Parts.{parts}
use Rattle.subscriber_stream.specs.Message.{place_after}
use Rattle.stream_meaning.specs.HandedOut.{AreHandedOut}
use Rattle.stream_meaning.proofs.Handing.{handed_given, handed_answer}
use Rattle.octet_io.specs.Written.{WritesFront}
use Rattle.disclosure_audit.specs.declared.entry.AuditEntry.{AuditEntry}
use Rattle.disclosure_audit.specs.Queue.{StandsIn}
use Rattle.event_journal.specs.declared.entry.Entry.{Entry}
use Rattle.event_journal.specs.declared.entry.Entry.TheVariants.{Cut as CutEntry}
use Rattle.mediator_history.specs.Disclosed.{given_at, disclosed}
use Rattle.mediator_history.proofs.HistoryLaws.{disclosed-push}
use Rattle.mediator_history.proofs.SinceLaws.{cut_is_served_no_more, unserved_get_nothing}
use Rattle.mediator_history.specs.Auditing.{audit_list}
use Rattle.mediator_state.specs.Calls.{StateStandsFor}
use Rattle.mediator_state.specs.declared.fault.Fault.{Fault as MediatorFault}
use Rattle.mediator_state.specs.declared.fault.Fault.TheVariants as fault
use Rattle.sequences.proofs.ListLaws.{take-add-append}
use Rattle.mediator_offline.specs.declared.run.OfflineRun.{OfflineRun}
use Rattle.mediator_offline.specs.declared.job.OfflineJob.{OfflineJob}
use Rattle.mediator_offline.specs.declared.job.Fault.{Fault}
use Rattle.mediator_offline.specs.declared.job.Fault.TheVariants.{Write, Mediator, Cut, AuditWrite}
use Rattle.mediator_offline.specs.Ports.{Outputs, holding}
use Rattle.mediator_offline.specs.Lines.{lines_for, WritesBeginning, WritesOn}
use Rattle.mediator_offline.specs.Recording.{Records}
use Rattle.mediator_offline.specs.Offline.{after_message, history_of, disclosed_by, pulled_to_end, due_by, due, audit_due, cuts_by, next_message as next_entry, end_of}
use Rattle.mediator_offline.specs.Due.{IsWrittenFor}
use Rattle.mediator_offline.specs.Runs.{sizes_tell, listed, audit_waiting, KeepsAsked, RunHasHistory, RunStands, Small}
use Rattle.mediator_offline.specs.Steps.{TakesMessage}
use Rattle.mediator_offline.specs.Accepting.{AcceptsMessage, RefusesOctets, AreAccepted}
use Rattle.mediator_offline.specs.HandsOut.{HandsOutAll}
use Rattle.mediator_offline.specs.Gathering.{and_gathered}
use Rattle.mediator_offline.specs.Pulling.{Delivers, StopsDelivery, FailsDelivery}
use Rattle.mediator_offline.specs.Filtering.{WritesPart, StopsAtMessage}
use Rattle.mediator_offline.specs.Failing.{StopsLines}
use Rattle.mediator_offline.specs.Running.{IsRunning, RunsSomewhere}
use Rattle.mediator_offline.proofs.GatheringLaws.{front_longer, stops_inside}
use Rattle.mediator_offline.proofs.Delivering.{streamable_of, stands_on}
use Rattle.mediator_offline.proofs.Receiving.{waits_added, within_end}
use Rattle.mediator_offline.proofs.OneMore.{history_more, due_more, audit_more, lines_more, ended, pulled-ended, handed_front, handed_all, handed_few}
use Rattle.mediator_offline.proofs.DueLaws.{due_found}

-- ---- what is written for one message more

-- the same lines, where the entries are kept for which they are asked
lines_same : (asked : Bool) (entries : Option (List AuditEntry)) (added : List AuditEntry) → is_some entries ≡ asked → IfSome entries (λ es. es ≡ added) → lines_for asked (listed entries) ≡ lines_for asked added
lines_same true None added kept are = absurd cc
lines_same true (Some es) added kept are = ap (lines_for true) are
lines_same false entries added kept are = refl

-- the lines that it adds to the audit were written, which waited
lines_added : (job : OfflineJob) (messages : List (List ℕ)) (octets : List ℕ) (added : List AuditEntry) (waiting : Option (List AuditEntry)) (a b c : Option (List ℕ))
    → audit_list (history_of job (messages ++ octets ∷ [])) ≡ audit_list (history_of job messages) ++ added → is_some waiting ≡ job.audit → IfSome waiting (λ es. es ≡ added)
    → Appends a b (audit_due job messages) → Appends b c (lines_for job.audit (listed waiting)) → Appends a c (audit_due job (messages ++ octets ∷ []))
lines_added job messages octets added waiting a b c adds kept waits so lines = subst (Appends a c) (sym (lines_more job messages octets added adds))
    (Appends-trans a b c (audit_due job messages) (lines_for job.audit added) so (subst (λ l. Appends b c l) (lines_same job.audit waiting added kept waits) lines))

some_after : (a b c : Option (List ℕ)) (xs ys : List ℕ) → Appends a b xs → WritesBeginning b c ys → WritesOn a c xs (xs ++ ys)
some_after a b c xs ys so some = record {
  count = length xs + some.count;
  least = omega arith;
  within = omega (arith, length-append xs ys, some.within);
  written = subst (Appends a c) (sym (take-add-append xs ys some.count)) (Appends-trans a b c xs (take some.count ys) so some.written);
}

-- a front of them
lines_begun : (job : OfflineJob) (messages : List (List ℕ)) (octets : List ℕ) (added : List AuditEntry) (waiting : Option (List AuditEntry)) (a b c : Option (List ℕ))
    → audit_list (history_of job (messages ++ octets ∷ [])) ≡ audit_list (history_of job messages) ++ added → is_some waiting ≡ job.audit → IfSome waiting (λ es. es ≡ added)
    → Appends a b (audit_due job messages) → WritesBeginning b c (lines_for job.audit (listed waiting)) → WritesOn a c (audit_due job messages) (audit_due job (messages ++ octets ∷ []))
lines_begun job messages octets added waiting a b c adds kept waits so some = subst (WritesOn a c (audit_due job messages)) (sym (lines_more job messages octets added adds))
    (some_after a b c (audit_due job messages) (lines_for job.audit added) so (subst (λ l. WritesBeginning b c l) (lines_same job.audit waiting added kept waits) some))

-- whole messages of what it adds are due behind the others
due_in_hand : (job : OfflineJob) (messages : List (List ℕ)) (octets : List ℕ) (handed others : List (List ℕ)) → due_by job messages octets ≡ handed ++ others
    → IsWrittenFor job [] 0 (messages ++ octets ∷ []) (due job messages ++ (handed ++ others))
due_in_hand job messages octets handed others front =
    subst (IsWrittenFor job [] 0 (messages ++ octets ∷ [])) (due_more job messages octets ∙ ap (λ ms. due job messages ++ ms) front) (due_found job (messages ++ octets ∷ []))

-- the holder of the stream keeps what they mean
handed_run : (so_far : List (List ℕ)) (records : List DataRecord) (now target p q : ℕ) (messages : List (List ℕ)) → now < 2 ^ 32 → target < 2 ^ 16
    → AreHandedOut so_far records p → HandsOutAll records now target p messages q → AreHandedOut (so_far ++ messages) records q
handed_run so_far records now target p q [] n t so hands = subst (λ x. AreHandedOut (so_far ++ []) records x) hands (subst (λ ms. AreHandedOut ms records p) (sym (append-nil so_far)) so)
handed_run so_far records now target p q (m ∷ messages) n t so hands =
    subst (λ ms. AreHandedOut ms records q) (append_assoc so_far (m ∷ []) messages)
    (handed_run (so_far ++ m ∷ []) records now target (place_after records p target) q messages n t (handed_answer so_far (Some m) records p now target n t so (sym hands.0)) hands.1)

-- ---- the audit of a run

pub recorded_on : {Q : Type 0} (d e : OfflineRun Q) (h : List Entry) (p : ℕ) → RunStands d h p → Records d e → RunStands e h p
recorded_on d e h p so r = stands_on d e h p p so r.same (r.stands h so.state) (r.place ∙ so.place)

-- ---- messages that are accepted

pub accepted_more : (job : OfflineJob) (before messages : List (List ℕ)) (octets : List ℕ) → AreAccepted job before messages
    → AcceptsMessage (history_of job (before ++ messages)) octets × (cuts_by (history_of job (before ++ messages)) octets ≡ []) → AreAccepted job before (messages ++ octets ∷ [])
accepted_more job before [] octets so here = (subst (λ ms. AcceptsMessage (history_of job ms) octets × (cuts_by (history_of job ms) octets ≡ [])) (append-nil before) here, tt)
accepted_more job before (m ∷ messages) octets so here =
    (so.0, accepted_more job (before ++ m ∷ []) messages octets so.1 (subst (λ ms. AcceptsMessage (history_of job ms) octets × (cuts_by (history_of job ms) octets ≡ [])) (sym (append_assoc before (m ∷ []) messages)) here))

-- what is known of a run that received a message, which cut nobody
pub record Received {Q : Type 0} (d : OfflineRun Q) (job : OfflineJob) (messages : List (List ℕ)) (octets : List ℕ) : Type 0 where
  pub uncut : cuts_by (history_of job messages) octets ≡ []
  pub stands : RunStands d (history_of job (messages ++ octets ∷ [])) (end_of (history_of job messages))
  pub small : Small (history_of job (messages ++ octets ∷ []))

received : {Q : Type 0} (d1 d2 : OfflineRun Q) (job : OfflineJob) (messages : List (List ℕ)) (octets : List ℕ) {before after : Outputs} → IsRunning d1 job messages before after
    → TakesMessage d1 octets false d2 → Received d2 job messages octets
received d1 d2 job messages octets r receives =
    let on = receives.goes_on (history_of job messages) r.stands r.small refl in
    record {
      uncut = on.0;
      stands = subst (λ x. RunStands d2 x (end_of (history_of job messages))) (sym (history_more job messages octets)) on.1;
      small = subst Small (sym (history_more job messages octets)) on.2;
    }

-- no more messages are handed out for it than there are parts
few_in_hand : {Q : Type 0} (d : OfflineRun Q) (job : OfflineJob) (messages : List (List ℕ)) (octets : List ℕ) (q : ℕ) (handed : List (List ℕ)) → Received d job messages octets → job.target < 2 ^ 16
    → HandsOutAll (disclosed_by job (messages ++ octets ∷ [])) job.now job.target (end_of (history_of job messages)) handed q → length handed ≤ length (parts (disclosed_by job (messages ++ octets ∷ [])))
few_in_hand d job messages octets q handed on low hands =
    omega (arith, handed_few (disclosed_by job (messages ++ octets ∷ [])) job.now job.target (end_of (history_of job messages)) q handed (streamable_of (history_of job (messages ++ octets ∷ [])) on.small) low (within_end d (history_of job (messages ++ octets ∷ [])) (end_of (history_of job messages)) on.stands) hands)

-- ---- a message that was accepted, and was delivered

-- what is known after receive and deliver
pub record IsDelivered {Q : Type 0} (d1 d2 d3 : OfflineRun Q) (octets : List ℕ) (holds writes : Option (List ℕ)) : Type 0 where
  pub receives : TakesMessage d1 octets false d2
  pub job : d2.job ≡ d1.job
  pub sent : d2.sent ≡ d1.sent
  pub below : d2.job.target < 2 ^ 16
  pub now_below : d2.job.now < 2 ^ 32
  pub delivers : Delivers d2 d3 holds writes

-- what that makes of a run
pub record Delivered {Q : Type 0} (d1 d3 : OfflineRun Q) (job : OfflineJob) (messages : List (List ℕ)) (octets : List ℕ) (held writes : Option (List ℕ)) : Type 0 where
  pub accepts : AcceptsMessage (history_of job messages) octets
  pub uncut : cuts_by (history_of job messages) octets ≡ []
  pub stands : RunStands d3 (history_of job (messages ++ octets ∷ [])) (end_of (history_of job (messages ++ octets ∷ [])))
  pub small : Small (history_of job (messages ++ octets ∷ []))
  pub job_is : d3.job ≡ job
  pub sent : d3.sent ≡ length (concat (due job (messages ++ octets ∷ [])))
  pub few : d3.sent ≤ 65535 * end_of (history_of job (messages ++ octets ∷ []))
  pub written : Appends held writes (concat (due job (messages ++ octets ∷ [])))
  pub added : List AuditEntry
  pub adds : audit_list (history_of job (messages ++ octets ∷ [])) ≡ audit_list (history_of job messages) ++ added
  pub waits : IfSome d3.state.engine.audit.standing.entries (λ es. es ≡ added)
  pub handed : AreHandedOut (due job (messages ++ octets ∷ [])) (disclosed_by job (messages ++ octets ∷ [])) (end_of (history_of job (messages ++ octets ∷ [])))

pub delivered : {Q : Type 0} (d1 d2 d3 : OfflineRun Q) (job : OfflineJob) (messages : List (List ℕ)) (octets : List ℕ) (writes : Option (List ℕ)) {before after : Outputs} → IsRunning d1 job messages before after
    → IsDelivered d1 d2 d3 octets after.written writes → Delivered d1 d3 job messages octets before.written writes
delivered d1 d2 d3 job messages octets writes {before} {after} r k = record {
  accepts = k.receives.accepts h r.stands r.small;
  uncut = on.uncut;
  stands = del.1;
  small = on.small;
  job_is = k.delivers.job ∙ same_job;
  sent = omega (arith, k.delivers.sent, k.sent, r.sent, ap length whole, length-append (concat (due job messages)) (concat k.delivers.messages));
  few = k.delivers.few (end_of h) (omega (arith, k.sent, r.few)) (history_of job (messages ++ octets ∷ [])) on.stands on.small;
  written = subst (Appends before.written writes) (sym whole) (Appends-trans before.written after.written writes (concat (due job messages)) (concat k.delivers.messages) r.writes.stream k.delivers.written);
  added = more.0;
  adds = more.1;
  waits = waits_added d1 d3 (audit_list h) more.0 r.stands.state.stands.audit r.quiet (k.delivers.audit.drained ∙ k.receives.drained)
      (subst (StandsIn d3.state.engine.audit.standing) more.1 del.1.state.stands.audit);
  handed = subst (λ ms. AreHandedOut ms shown last) (sym (due_more job messages octets ∙ ap (λ ms. due job messages ++ ms) by))
      (handed_run (due job messages) shown job.now job.target (end_of h) last k.delivers.messages now_below below
      (subst (λ l. AreHandedOut (due job messages) l (end_of h)) (sym listed) (handed_given (due job messages) (disclosed 1 h) (given_at 1 h (next_entry h octets)) (end_of h) r.handed)) hands);
}
  where
    h : List Entry
    h = history_of job messages

    shown : List DataRecord
    shown = disclosed_by job (messages ++ octets ∷ [])

    last : ℕ
    last = end_of (history_of job (messages ++ octets ∷ []))

    on : Received d2 job messages octets
    on = received d1 d2 job messages octets r k.receives

    listed : shown ≡ disclosed 1 h ++ given_at 1 h (next_entry h octets)
    listed = ap (disclosed 1) (history_more job messages octets) ∙ ap (λ c. disclosed 1 (h ++ (c ++ next_entry h octets ∷ []))) on.uncut ∙ disclosed-push 1 h (next_entry h octets)

    more : (added : List AuditEntry) × (audit_list (history_of job (messages ++ octets ∷ [])) ≡ audit_list h ++ added)
    more = audit_more job messages octets

    del : HandsOutAll shown d2.job.now d2.job.target (end_of h) k.delivers.messages last × RunStands d3 (history_of job (messages ++ octets ∷ [])) last
    del = k.delivers.handed (history_of job (messages ++ octets ∷ [])) (end_of h) on.stands on.small

    same_job : d2.job ≡ job
    same_job = k.job ∙ r.job_is

    now_below : job.now < 2 ^ 32
    now_below = subst (λ j. j.now < 2 ^ 32) same_job k.now_below

    hands : HandsOutAll shown job.now job.target (end_of h) k.delivers.messages last
    hands = subst (λ j. HandsOutAll shown j.now j.target (end_of h) k.delivers.messages last) same_job del.0

    below : job.target < 2 ^ 16
    below = subst (λ j. j.target < 2 ^ 16) same_job k.below

    by : due_by job messages octets ≡ k.delivers.messages
    by = handed_all (length (parts shown)) shown job.now job.target (end_of h) k.delivers.messages hands (few_in_hand d2 job messages octets last k.delivers.messages on below hands)

    whole : concat (due job (messages ++ octets ∷ [])) ≡ concat (due job messages) ++ concat k.delivers.messages
    whole = ap concat (due_more job messages octets ∙ ap (λ ms. due job messages ++ ms) by) ∙ concat-append (due job messages) k.delivers.messages

-- then recorded: the run goes on
pub handled : {Q : Type 0} (d1 d3 d4 : OfflineRun Q) (job : OfflineJob) (messages : List (List ℕ)) (octets : List ℕ) {before mid after : Outputs} → IsRunning d1 job messages before mid
    → Delivered d1 d3 job messages octets before.written after.written → Records d3 d4 → KeepsAsked d3 → Appends mid.audited after.audited (lines_for d3.job.audit (audit_waiting d3))
    → IsRunning d4 job (messages ++ octets ∷ []) before after
handled d1 d3 d4 job messages octets {before} {mid} {after} r k records kept lines = record {
  job_is = records.same.job ∙ k.job_is;
  job_accepted = r.job_accepted;
  stands = recorded_on d3 d4 (history_of job (messages ++ octets ∷ [])) (end_of (history_of job (messages ++ octets ∷ []))) k.stands records;
  small = k.small;
  quiet = records.quiet;
  sent = records.sent ∙ k.sent;
  few = omega (arith, records.sent, k.few);
  writes = record {
    stream = k.written;
    audit = lines_added job messages octets k.added d3.state.engine.audit.standing.entries before.audited mid.audited after.audited k.adds (kept ∙ ap (λ (j : OfflineJob). j.audit) k.job_is) k.waits r.writes.audit
        (subst (λ j. Appends mid.audited after.audited (lines_for j.audit (audit_waiting d3))) k.job_is lines);
  };
  accepted = accepted_more job [] messages octets r.accepted (k.accepts, k.uncut);
  handed = k.handed;
}

-- ---- where a run stops at a message

none_more : (messages : List (List ℕ)) → concat (messages ++ []) ≡ concat messages
none_more messages = ap concat (append-nil messages)

-- nothing of the message in hand was written
pub nothing_in_hand : {Q : Type 0} (d : OfflineRun Q) (job : OfflineJob) (messages : List (List ℕ)) (octets : List ℕ) {before after : Outputs} → IsRunning d job messages before after
    → WritesPart job messages (due job messages) octets before after
nothing_in_hand d job messages octets {before} {after} r =
    let more = audit_more job messages octets in
    record {
      handed = [];
      others = due_by job messages octets;
      due = due_in_hand job messages octets [] (due_by job messages octets) refl;
      stream = subst (Appends before.written after.written) (sym (none_more (due job messages))) r.writes.stream;
      audit = subst (WritesOn before.audited after.audited (audit_due job messages)) (sym (lines_more job messages octets more.0 more.1))
          (some_after before.audited after.audited after.audited (audit_due job messages) (lines_for job.audit more.0) r.writes.audit (record { count = 0; within = omega arith; written = Appends-nil after.audited }));
    }

pub stops_refused : {Q : Type 0} (f : MediatorFault) (d : OfflineRun Q) (job : OfflineJob) (messages : List (List ℕ)) (octets : List ℕ) (before after : Outputs) → IsRunning d job messages before after
    → RefusesOctets f (history_of job messages) octets → StopsAtMessage (Mediator f) job messages (due job messages) octets before after
stops_refused fault.OutOfMemory d job messages octets before after r refuses = nothing_in_hand d job messages octets r
stops_refused (fault.Malformed why) d job messages octets before after r refuses = (refuses, r.writes)
stops_refused fault.JournalFull d job messages octets before after r refuses = (refuses, r.writes)
stops_refused (fault.AuditFull need room) d job messages octets before after r refuses = (refuses, r.writes)
stops_refused _ d job messages octets before after r refuses = absurd refuses

-- lines stop where the audit fails, or for want of memory
by_lines : (P : Fault → Type 0) (failed : Bool) → (failed ≡ true → P AuditWrite) → P (Mediator fault.OutOfMemory) → (e : Fault) → StopsLines e failed → P e
by_lines P failed audit memory AuditWrite cause = audit cause
by_lines P failed audit memory (Mediator fault.OutOfMemory) cause = memory
by_lines P failed audit memory _ cause = absurd cause

-- the message was delivered, and its lines stop
pub stops_recording : {Q : Type 0} (f : Fault) (d1 d3 : OfflineRun Q) (job : OfflineJob) (messages : List (List ℕ)) (octets : List ℕ) (before mid after : Outputs) → IsRunning d1 job messages before mid
    → Delivered d1 d3 job messages octets before.written after.written → StopsLines f after.audit_failed → KeepsAsked d3 → WritesBeginning mid.audited after.audited (lines_for d3.job.audit (audit_waiting d3))
    → StopsAtMessage f job messages (due job messages) octets before after
stops_recording f d1 d3 job messages octets before mid after r k cause kept some =
    by_lines (λ e. StopsAtMessage e job messages (due job messages) octets before after) after.audit_failed
    (λ cause. (k.accepts, (due job (messages ++ octets ∷ []), due_found job (messages ++ octets ∷ []), k.written), lines, cause)) memory f cause
  where
    lines : WritesOn before.audited after.audited (audit_due job messages) (audit_due job (messages ++ octets ∷ []))
    lines = lines_begun job messages octets k.added d3.state.engine.audit.standing.entries before.audited mid.audited after.audited k.adds (kept ∙ ap (λ (j : OfflineJob). j.audit) k.job_is) k.waits r.writes.audit
        (subst (λ j. WritesBeginning mid.audited after.audited (lines_for j.audit (audit_waiting d3))) k.job_is some)

    memory : WritesPart job messages (due job messages) octets before after
    memory = record {
      handed = due_by job messages octets;
      others = [];
      due = due_in_hand job messages octets (due_by job messages octets) [] (sym (append-nil (due_by job messages octets)));
      stream = subst (λ ms. Appends before.written after.written (concat ms)) (due_more job messages octets) k.written;
      audit = lines;
    }

-- the message was accepted, and its delivery stops, behind what was gathered; the audit is as it was
pub stops_delivering : {Q : Type 0} (f : Fault) (d1 d2 : OfflineRun Q) (job : OfflineJob) (messages : List (List ℕ)) (octets gathered : List ℕ) (before : Outputs) (held audited writes : Option (List ℕ)) (had failed afailed : Bool)
    → IsRunning d1 job messages before (holding (and_gathered held gathered) audited had afailed) → TakesMessage d1 octets false d2 → d2.job ≡ d1.job → d2.sent ≡ d1.sent → d2.job.target < 2 ^ 16 → FailsDelivery f d2 gathered held writes failed
    → StopsAtMessage f job messages (due job messages) octets before (holding writes audited failed afailed)
stops_delivering f d1 d2 job messages octets gathered before held audited writes had failed afailed r receives same sent_same low fails = by f fails.stops
  where
    begin : ℕ
    begin = end_of (history_of job messages)

    on : Received d2 job messages octets
    on = received d1 d2 job messages octets r receives

    del : (q : ℕ) × HandsOutAll (disclosed_by job (messages ++ octets ∷ [])) d2.job.now d2.job.target begin fails.messages q
    del = fails.handed (history_of job (messages ++ octets ∷ [])) begin on.stands on.small

    hands : HandsOutAll (disclosed_by job (messages ++ octets ∷ [])) job.now job.target begin fails.messages del.0
    hands = subst (λ j. HandsOutAll (disclosed_by job (messages ++ octets ∷ [])) j.now j.target begin fails.messages del.0) (same ∙ r.job_is) del.1

    front : (others : List (List ℕ)) × (due_by job messages octets ≡ fails.messages ++ others)
    front = handed_front (length (parts (disclosed_by job (messages ++ octets ∷ [])))) (disclosed_by job (messages ++ octets ∷ [])) job.now job.target begin del.0 fails.messages hands
        (few_in_hand d2 job messages octets del.0 fails.messages on (subst (λ j. j.target < 2 ^ 16) (same ∙ r.job_is) low) hands)

    whole : concat (due job (messages ++ octets ∷ [])) ≡ (concat (due job messages) ++ concat fails.messages) ++ concat front.0
    whole = ap concat (due_more job messages octets ∙ ap (λ ms. due job messages ++ ms) front.1) ∙ concat-append (due job messages) (fails.messages ++ front.0) ∙ ap (λ t. concat (due job messages) ++ t) (concat-append fails.messages front.0)
        ∙ sym (append_assoc (concat (due job messages)) (concat fails.messages) (concat front.0))

    writes_front : (n : ℕ) (sent : ℕ) → sent + length gathered ≡ d2.sent + n → WritesFront held writes (gathered ++ concat fails.messages) n failed
        → WritesFront before.written writes (concat (due job (messages ++ octets ∷ []))) sent failed
    writes_front n sent counted w = subst (λ t. WritesFront before.written writes t sent failed) (sym whole)
        (front_longer before.written writes (concat (due job messages) ++ concat fails.messages) (concat front.0) sent failed
        (stops_inside before.written held writes gathered (concat fails.messages) (concat (due job messages)) n sent failed r.writes.stream (omega (arith, counted, sent_same, r.sent)) w))

    memory : Appends (and_gathered held gathered) writes (concat fails.messages) → WritesPart job messages (due job messages) octets before (holding writes audited failed afailed)
    memory so =
        let none = nothing_in_hand d1 job messages octets r in
        record {
          handed = fails.messages;
          others = front.0;
          due = due_in_hand job messages octets fails.messages front.0 front.1;
          stream = subst (Appends before.written writes) (sym (concat-append (due job messages) fails.messages))
              (Appends-trans before.written (and_gathered held gathered) writes (concat (due job messages)) (concat fails.messages) r.writes.stream so);
          audit = none.audit;
        }

    by : (g : Fault) → StopsDelivery g d2 gathered held writes failed fails.messages → StopsAtMessage g job messages (due job messages) octets before (holding writes audited failed afailed)
    by (Write sent) s = (
      receives.accepts (history_of job messages) r.stands r.small,
      (due job (messages ++ octets ∷ []), due_found job (messages ++ octets ∷ []), writes_front s.0 sent s.1 s.2),
      r.writes.audit,
    )
    by (Mediator fault.OutOfMemory) s = memory s
    by _ s = absurd s

-- ---- a message that cuts the subscription

-- after its cut nothing is disclosed to it
disclosed_cut : (h : List Entry) (octets : List ℕ) → cuts_by h octets ≡ CutEntry 1 ∷ [] → disclosed 1 (after_message h octets) ≡ disclosed 1 h
disclosed_cut h octets cut =
    ap (λ c. disclosed 1 (h ++ (c ++ next_entry h octets ∷ []))) cut
    ∙ ap (disclosed 1) (sym (append_assoc h (CutEntry 1 ∷ []) (next_entry h octets ∷ [])))
    ∙ disclosed-push 1 (h ++ CutEntry 1 ∷ []) (next_entry h octets)
    ∙ ap (λ g. disclosed 1 (h ++ CutEntry 1 ∷ []) ++ g) (unserved_get_nothing 1 (h ++ CutEntry 1 ∷ []) (next_entry h octets) (cut_is_served_no_more 1 h))
    ∙ append-nil (disclosed 1 (h ++ CutEntry 1 ∷ []))
    ∙ disclosed-push 1 h (CutEntry 1)
    ∙ append-nil (disclosed 1 h)

-- what is known after a cut
pub record WasCut {Q : Type 0} (d1 d2 : OfflineRun Q) (job : OfflineJob) (messages : List (List ℕ)) (octets : List ℕ) : Type 0 where
  pub accepts : AcceptsMessage (history_of job messages) octets
  pub cut : cuts_by (history_of job messages) octets ≡ CutEntry 1 ∷ []
  pub no_more : due job (messages ++ octets ∷ []) ≡ due job messages
  pub added : List AuditEntry
  pub adds : audit_list (history_of job (messages ++ octets ∷ [])) ≡ audit_list (history_of job messages) ++ added
  pub waits : IfSome d2.state.engine.audit.standing.entries (λ es. es ≡ added)
  pub job_is : d2.job ≡ job

pub was_cut_at : {Q : Type 0} (d1 d2 : OfflineRun Q) (job : OfflineJob) (messages : List (List ℕ)) (octets : List ℕ) {before after : Outputs} → IsRunning d1 job messages before after
    → TakesMessage d1 octets true d2 → d2.job ≡ d1.job → WasCut d1 d2 job messages octets
was_cut_at d1 d2 job messages octets r receives same = record {
  accepts = receives.accepts h r.stands r.small;
  cut = on.0;
  no_more = due_more job messages octets ∙ ap (λ ms. due job messages ++ ms) by ∙ append-nil (due job messages);
  added = more.0;
  adds = more.1;
  waits = waits_added d1 d2 (audit_list h) more.0 r.stands.state.stands.audit r.quiet receives.drained (subst (StandsIn d2.state.engine.audit.standing) (ap audit_list (sym e) ∙ more.1) on.1.stands.audit);
  job_is = same ∙ r.job_is;
}
  where
    h : List Entry
    h = history_of job messages

    e : history_of job (messages ++ octets ∷ []) ≡ after_message h octets
    e = history_more job messages octets

    on : (cuts_by h octets ≡ CutEntry 1 ∷ []) × StateStandsFor sizes_tell d2.state (after_message h octets)
    on = receives.cuts h r.stands r.small refl

    more : (added : List AuditEntry) × (audit_list (history_of job (messages ++ octets ∷ [])) ≡ audit_list (history_of job messages) ++ added)
    more = audit_more job messages octets

    by : due_by job messages octets ≡ []
    by = ap (λ l. pulled_to_end l (end_of h) job.now job.target) (ap (disclosed 1) e ∙ disclosed_cut h octets on.0)
        ∙ pulled-ended (length (parts (disclosed 1 h))) (disclosed 1 h) (end_of h) job.now job.target (ended (disclosed 1 h) job.now job.target)

pub stops_cut : {Q : Type 0} (d1 d2 : OfflineRun Q) (job : OfflineJob) (messages : List (List ℕ)) (octets : List ℕ) (before mid : Outputs) (awrites : Option (List ℕ)) (failed afailed : Bool) → IsRunning d1 job messages before mid
    → WasCut d1 d2 job messages octets → KeepsAsked d2 → Appends mid.audited awrites (lines_for d2.job.audit (audit_waiting d2))
    → StopsAtMessage Cut job messages (due job messages) octets before (holding mid.written awrites failed afailed)
stops_cut d1 d2 job messages octets before mid awrites failed afailed r k kept lines = (
  k.accepts,
  k.cut,
  record {
    stream = r.writes.stream;
    audit = lines_added job messages octets k.added d2.state.engine.audit.standing.entries before.audited mid.audited awrites k.adds (kept ∙ ap (λ (j : OfflineJob). j.audit) k.job_is) k.waits r.writes.audit
        (subst (λ j. Appends mid.audited awrites (lines_for j.audit (audit_waiting d2))) k.job_is lines);
  },
)

pub stops_cut_recording : {Q : Type 0} (f : Fault) (d1 d2 : OfflineRun Q) (job : OfflineJob) (messages : List (List ℕ)) (octets : List ℕ) (before mid : Outputs) (awrites : Option (List ℕ)) (failed afailed : Bool)
    → IsRunning d1 job messages before mid → WasCut d1 d2 job messages octets → StopsLines f afailed → KeepsAsked d2 → WritesBeginning mid.audited awrites (lines_for d2.job.audit (audit_waiting d2))
    → StopsAtMessage f job messages (due job messages) octets before (holding mid.written awrites failed afailed)
stops_cut_recording f d1 d2 job messages octets before mid awrites failed afailed r k cause kept some =
    by_lines (λ e. StopsAtMessage e job messages (due job messages) octets before (holding mid.written awrites failed afailed)) afailed
    (λ cause. (
      k.accepts,
      (due job (messages ++ octets ∷ []), due_found job (messages ++ octets ∷ []), subst (λ ms. Appends before.written mid.written (concat ms)) (sym k.no_more) r.writes.stream),
      lines,
      cause,
    ))
    memory f cause
  where
    lines : WritesOn before.audited awrites (audit_due job messages) (audit_due job (messages ++ octets ∷ []))
    lines = lines_begun job messages octets k.added d2.state.engine.audit.standing.entries before.audited mid.audited awrites k.adds (kept ∙ ap (λ (j : OfflineJob). j.audit) k.job_is) k.waits r.writes.audit
        (subst (λ j. WritesBeginning mid.audited awrites (lines_for j.audit (audit_waiting d2))) k.job_is some)

    memory : WritesPart job messages (due job messages) octets before (holding mid.written awrites failed afailed)
    memory = record {
      handed = [];
      others = due_by job messages octets;
      due = due_in_hand job messages octets [] (due_by job messages octets) refl;
      stream = subst (Appends before.written mid.written) (sym (none_more (due job messages))) r.writes.stream;
      audit = lines;
    }

-- ---- where the steps of a message stand

pub delivered_history : {Q : Type 0} (d1 d2 d3 : OfflineRun Q) (octets : List ℕ) (holds writes : Option (List ℕ)) {after : Outputs} → RunsSomewhere d1 after → TakesMessage d1 octets false d2 → Delivers d2 d3 holds writes → RunHasHistory d3
delivered_history d1 d2 d3 octets holds writes r receives delivers =
    let on = receives.goes_on (history_of r.job r.messages) r.running.stands r.running.small refl in
    record {
      history = after_message (history_of r.job r.messages) octets;
      state = (delivers.handed (after_message (history_of r.job r.messages) octets) (end_of (history_of r.job r.messages)) on.1 on.2).1.state;
    }
