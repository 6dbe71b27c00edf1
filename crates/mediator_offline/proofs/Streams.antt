-- Messages of a stream that are handled one after another.
use Rattle.std.proofs.Common.{◌≡◌, ℕ, ◌+◌, ◌-◌, ◌≤◌, ◌<◌, Bool, true, false, List, [], ◌∷◌, ◌++◌, length, take, Option, Some, refl, sym, ap, ◌∙◌, subst, append-nil, append_assoc, arith}
use Rattle.std.specs.List.{concat}
use Rattle.std.specs.Io.KnownBytes.{Appends, Keeps}
use Rattle.std.proofs.KnownBytes.{Appends-kept}
use Rattle.std.proofs.lemmas.List.{take_all}
use Rattle.ipfix_message.specs.declared.fault.Fault.{Fault as DecodeError}
use Rattle.ipfix_message.specs.Framing.{IsFramed}
use Rattle.subscriber_stream.specs.Parts.{parts, records_of_parts}
use Rattle.subscriber_stream.proofs.CallLaws.{parts_bring}
use Rattle.stream_meaning.specs.Means.{Means}
use Rattle.stream_meaning.proofs.Handing.{handed_means}
use Rattle.mediator_offline.specs.declared.job.OfflineJob.{OfflineJob}
use Rattle.mediator_offline.specs.declared.job.Fault.{Fault}
use Rattle.mediator_offline.specs.declared.run.OfflineRun.{OfflineRun}
use Rattle.mediator_state.specs.declared.fault.Fault.{Fault as MediatorFault}
use Rattle.mediator_state.specs.declared.fault.Fault.TheVariants as fault
use Rattle.disclosure_audit.specs.declared.entry.AuditEntry.{AuditEntry}
use Rattle.octet_io.specs.Written.{WritesFront}
use Rattle.mediator_history.specs.Auditing.{audit_list}
use Rattle.mediator_offline.specs.declared.job.Fault.TheVariants.{Write, Mediator, Cut, AuditWrite}
use Rattle.mediator_offline.specs.Ports.{Outputs, holding}
use Rattle.mediator_offline.specs.Lines.{lines_for}
use Rattle.mediator_offline.specs.Offline.{history_of, disclosed_by, due, end_of}
use Rattle.mediator_offline.specs.Accepting.{AcceptsMessage, AreAccepted}
use Rattle.mediator_offline.specs.Gathering.{and_gathered, IsGatheredFor, StopsGathered}
use Rattle.mediator_offline.specs.Filtering.{Filters, IsFiltered, StopsAtMessage}
use Rattle.mediator_offline.specs.Running.{IsRunning, RunsSomewhere, HandlesOn, StopsOn}
use Rattle.mediator_offline.specs.Reaching.{HandlesAll, StopsAmong, WritesLast, HandlesLast}
use Rattle.mediator_offline.proofs.Delivering.{streamable_of}
use Rattle.mediator_offline.proofs.DueLaws.{due_found}
use Rattle.mediator_offline.proofs.GatheringLaws.{gathered_written, stops_inside, is_unasked}

-- ---- messages in a row

-- these messages of a list were handled, and the rest is left
pub record IsHandling {Q : Type 0} (old d : OfflineRun Q) (all rest : List (List ℕ)) (before after : Outputs) : Type 0 where
  pub done : List (List ℕ)
  pub parts : all ≡ done ++ rest
  pub handled : HandlesAll old d done before after

pub none_handled : {Q : Type 0} (d : OfflineRun Q) (all rest : List (List ℕ)) (before : Outputs) → rest ≡ all → IsHandling d d all rest before before
none_handled d all rest before is = record {
  done = [];
  parts = sym is;
  handled = record { running = λ job messages first r. subst (λ ms. IsRunning d job ms first before) (sym (append-nil messages)) r };
}

pub one_handled : {Q : Type 0} (old d e : OfflineRun Q) (all more rest : List (List ℕ)) (m : List ℕ) (before mid after : Outputs) → more ≡ m ∷ rest
    → IsHandling old d all more before mid → HandlesOn d e m mid after → IsHandling old e all rest before after
one_handled old d e all more rest m before mid after is so next = record {
  done = so.done ++ m ∷ [];
  parts = so.parts ∙ ap (λ t. so.done ++ t) is ∙ sym (append_assoc so.done (m ∷ []) rest);
  handled = record {
    running = λ job messages first r.
        subst (λ ms. IsRunning e job ms first after) (append_assoc messages so.done (m ∷ []))
        (next.running job (messages ++ so.done) first (so.handled.running job messages first r));
  };
}

pub runs_on : {Q : Type 0} (old d : OfflineRun Q) (more : List (List ℕ)) (before after : Outputs) → RunsSomewhere old before → HandlesAll old d more before after → RunsSomewhere d after
runs_on old d more before after r so = record { job = r.job; messages = r.messages ++ more; before = r.before; running = so.running r.job r.messages r.before r.running }

-- what was written for a run means what its messages disclose
means_of : {Q : Type 0} (d : OfflineRun Q) (job : OfflineJob) (messages : List (List ℕ)) (before after : Outputs) → IsRunning d job messages before after → Means (due job messages) (disclosed_by job messages)
means_of d job messages before after r =
    subst (Means (due job messages)) (ap records_of_parts (take_all (end_of (history_of job messages)) (parts (disclosed_by job messages)) (omega arith)) ∙ parts_bring (disclosed_by job messages))
    (handed_means (due job messages) (disclosed_by job messages) (end_of (history_of job messages)) r.handed (streamable_of (history_of job messages) r.small))

-- so its messages were filtered
filters_of : {Q : Type 0} (d : OfflineRun Q) (job : OfflineJob) (messages : List (List ℕ)) (before after : Outputs) → IsRunning d job messages before after → Filters job messages (due job messages)
filters_of d job messages before after r = record { accepted = r.accepted; due = due_found job messages; means = means_of d job messages before after r }

pub one_stops : {Q : Type 0} (e : Fault) (old d : OfflineRun Q) (all more rest : List (List ℕ)) (m : List ℕ) (before mid after : Outputs) → more ≡ m ∷ rest
    → IsHandling old d all more before mid → StopsOn e d m mid after → StopsAmong e old all before after
one_stops e old d all more rest m before mid after is so stop = record {
  done = so.done;
  message = m;
  later = rest;
  parts = so.parts ∙ ap (λ t. so.done ++ t) is;
  stops = λ job messages first r.
      let there = so.handled.running job messages first r in
      (filters_of d job (messages ++ so.done) first mid there, stop.stops job (messages ++ so.done) first there);
}

-- all messages of a run that goes on
pub filtered_of : {Q : Type 0} (d : OfflineRun Q) (job : OfflineJob) (octets : List ℕ) (messages : List (List ℕ)) (fault : Option DecodeError) (pending : List ℕ) (before after : Outputs) → IsRunning d job messages before after
    → IsFramed octets messages fault pending → IsFiltered job octets messages fault pending before after
filtered_of d job octets messages fault pending before after r framed = record {
  job_accepted = r.job_accepted;
  framed = framed;
  written = due job messages;
  filters = filters_of d job messages before after r;
  writes = r.writes;
}

pub emptied : (w : DecodeError) (octets : List ℕ) (messages : List (List ℕ)) (pending : List ℕ) → IsFramed octets messages (Some w) pending → IsFramed octets messages (Some w) []
emptied w octets messages pending framed = subst (IsFramed octets messages (Some w)) framed.ends.0 framed

-- ---- the last message of which something is still to be written

-- of messages that are accepted one after another, the last one is accepted behind the others
last_accepted : (job : OfflineJob) (before messages : List (List ℕ)) (octets : List ℕ) → AreAccepted job before (messages ++ octets ∷ []) → AcceptsMessage (history_of job (before ++ messages)) octets
last_accepted job before [] octets so = subst (λ ms. AcceptsMessage (history_of job ms) octets) (sym (append-nil before)) so.0.0
last_accepted job before (m ∷ messages) octets so = subst (λ ms. AcceptsMessage (history_of job ms) octets) (append_assoc before (m ∷ []) messages) (last_accepted job (before ++ m ∷ []) messages octets so.1)

-- where the audit isn't asked for, no line is due
no_lines : (asked : Bool) (some others : List AuditEntry) → (asked ≡ true → ⊥) → lines_for asked some ≡ lines_for asked others
no_lines true some others unasked = absurd (unasked refl)
no_lines false some others unasked = refl

pub last_handled : {Q : Type 0} (old d e : OfflineRun Q) (all more rest : List (List ℕ)) (m gathered : List ℕ) (before mid after : Outputs) → more ≡ m ∷ rest
    → IsHandling old d all more before mid → HandlesOn d e m mid after → IsGatheredFor e gathered → after.audit_failed ≡ before.audit_failed → 0 < length gathered → HandlesLast old e.sent all before after
last_handled old d e all more rest m gathered before mid after is so next gathers sound some = record {
  done = so.done;
  message = m;
  later = rest;
  parts = so.parts ∙ ap (λ t. so.done ++ t) is;
  sound = sound;
  handled = λ job messages first r. writes job (messages ++ so.done) first (so.handled.running job messages first r);
}
  where
    writes : (job : OfflineJob) (messages : List (List ℕ)) (first : Outputs) → IsRunning d job messages first mid → WritesLast job messages m e.sent first after
    writes job messages first there =
        let now = next.running job messages first there in
        record {
          filters = filters_of d job messages first mid there;
          accepts = last_accepted job [] messages m now.accepted;
          counted = now.sent;
          stream = now.writes.stream;
          audit = subst (Appends first.audited after.audited)
              (no_lines job.audit (audit_list (history_of job (messages ++ m ∷ []))) (audit_list (history_of job messages)) (λ asked. is_unasked e gathered gathers some (ap (λ j. j.audit) now.job_is ∙ asked))) now.writes.audit;
        }

-- it still is after what changed neither the count nor the outputs
pub last_kept : {Q : Type 0} (old : OfflineRun Q) (sent left : ℕ) (all : List (List ℕ)) (before after last : Outputs) → HandlesLast old sent all before after → left ≡ sent → last ≡ after → HandlesLast old left all before last
last_kept old sent left all before after last k same outputs = subst (λ n. HandlesLast old n all before last) (sym same) (subst (HandlesLast old sent all before) (sym outputs) k)

-- the writer failed then: the run stops at that message
pub last_stops : {Q : Type 0} (e : Fault) (old : OfflineRun Q) (sent : ℕ) (all : List (List ℕ)) (before : Outputs) (held holds audited : Option (List ℕ)) (gathered : List ℕ) (had failed afailed : Bool)
    → HandlesLast old sent all before (holding (and_gathered held gathered) audited had afailed) → length gathered ≤ sent → StopsGathered e sent gathered held holds failed → StopsAmong e old all before (holding holds audited failed afailed)
last_stops e old sent all before held holds audited gathered had failed afailed k counted s = record {
  done = k.done;
  message = k.message;
  later = k.later;
  parts = k.parts;
  stops = λ job messages first r.
      let w = k.handled job messages first r in (
        w.filters,
        subst (λ x. StopsAtMessage x job (messages ++ k.done) (due job (messages ++ k.done)) k.message first (holding holds audited failed afailed)) (sym s.is) (
          w.accepts,
          (due job ((messages ++ k.done) ++ k.message ∷ []), due_found job ((messages ++ k.done) ++ k.message ∷ []), front job (messages ++ k.done) first w),
          w.audit,
        ),
      );
}
  where
    front : (job : OfflineJob) (messages : List (List ℕ)) (first : Outputs) → WritesLast job messages k.message sent first (holding (and_gathered held gathered) audited had afailed)
        → WritesFront first.written holds (concat (due job (messages ++ k.message ∷ []))) ((sent - length gathered) + s.front) failed
    front job messages first w =
        let all_due = concat (due job (messages ++ k.message ∷ [])) in
        subst (λ t. WritesFront first.written holds t ((sent - length gathered) + s.front) failed) (append-nil all_due)
        (stops_inside first.written held holds gathered [] all_due s.front ((sent - length gathered) + s.front) failed w.stream (omega (arith, counted, w.counted))
        (subst (λ t. WritesFront held holds t s.front failed) (sym (append-nil gathered)) s.inside))

-- ---- what was gathered is written

running_written : {Q : Type 0} (d : OfflineRun Q) (job : OfflineJob) (messages : List (List ℕ)) (first : Outputs) (held holds audited : Option (List ℕ)) (gathered : List ℕ) (had failed afailed : Bool)
    → IsRunning d job messages first (holding (and_gathered held gathered) audited had afailed) → Appends held holds gathered → IsRunning d job messages first (holding holds audited failed afailed)
running_written d job messages first held holds audited gathered had failed afailed r so = record {
  job_is = r.job_is;
  job_accepted = r.job_accepted;
  stands = r.stands;
  small = r.small;
  quiet = r.quiet;
  sent = r.sent;
  few = r.few;
  writes = record {
    stream = Appends-kept first.written (and_gathered held gathered) holds (concat (due job messages)) r.writes.stream (gathered_written held holds gathered so);
    audit = r.writes.audit;
  };
  accepted = r.accepted;
  handed = r.handed;
}

pub all_written : {Q : Type 0} (old new : OfflineRun Q) (more : List (List ℕ)) (before : Outputs) (held holds audited : Option (List ℕ)) (gathered : List ℕ) (had failed afailed : Bool)
    → Appends held holds gathered → HandlesAll old new more before (holding (and_gathered held gathered) audited had afailed) → HandlesAll old new more before (holding holds audited failed afailed)
all_written old new more before held holds audited gathered had failed afailed so k = record {
  running = λ job messages first r. running_written new job (messages ++ more) first held holds audited gathered had failed afailed (k.running job messages first r) so;
}

refused_written : (why : MediatorFault) (job : OfflineJob) (messages written : List (List ℕ)) (octets : List ℕ) (first : Outputs) (held holds audited : Option (List ℕ)) (had failed afailed : Bool)
    → Keeps held holds → StopsAtMessage (Mediator why) job messages written octets first (holding held audited had afailed) → StopsAtMessage (Mediator why) job messages written octets first (holding holds audited failed afailed)
refused_written fault.OutOfMemory job messages written octets first held holds audited had failed afailed kept s = record {
  handed = s.handed;
  others = s.others;
  due = s.due;
  stream = Appends-kept first.written held holds (concat (written ++ s.handed)) s.stream kept;
  audit = s.audit;
}
refused_written (fault.Malformed why) job messages written octets first held holds audited had failed afailed kept s =
    (s.0, record { stream = Appends-kept first.written held holds (concat written) s.1.stream kept; audit = s.1.audit })
refused_written fault.JournalFull job messages written octets first held holds audited had failed afailed kept s =
    (s.0, record { stream = Appends-kept first.written held holds (concat written) s.1.stream kept; audit = s.1.audit })
refused_written (fault.AuditFull need room) job messages written octets first held holds audited had failed afailed kept s =
    (s.0, record { stream = Appends-kept first.written held holds (concat written) s.1.stream kept; audit = s.1.audit })
refused_written _ job messages written octets first held holds audited had failed afailed kept s = absurd s.0

stop_written : (e : Fault) (job : OfflineJob) (messages written : List (List ℕ)) (octets : List ℕ) (first : Outputs) (held holds audited : Option (List ℕ)) (had failed afailed : Bool)
    → Keeps held holds → failed ≡ had → StopsAtMessage e job messages written octets first (holding held audited had afailed) → StopsAtMessage e job messages written octets first (holding holds audited failed afailed)
stop_written (Mediator why) job messages written octets first held holds audited had failed afailed kept same s = refused_written why job messages written octets first held holds audited had failed afailed kept s
stop_written (Write sent) job messages written octets first held holds audited had failed afailed kept same s = (
  s.0,
  (s.1.0, s.1.1, record { short = s.1.2.short; written = Appends-kept first.written held holds (take sent (concat s.1.0)) s.1.2.written kept; failed = same ∙ s.1.2.failed }),
  s.2,
)
stop_written Cut job messages written octets first held holds audited had failed afailed kept same s =
    (s.0, s.1, record { stream = Appends-kept first.written held holds (concat written) s.2.stream kept; audit = s.2.audit })
stop_written AuditWrite job messages written octets first held holds audited had failed afailed kept same s =
    (s.0, (s.1.0, s.1.1, Appends-kept first.written held holds (concat s.1.0) s.1.2 kept), s.2, s.3)
stop_written _ job messages written octets first held holds audited had failed afailed kept same s = absurd s

pub among_written : {Q : Type 0} (e : Fault) (old : OfflineRun Q) (all : List (List ℕ)) (before : Outputs) (held holds audited : Option (List ℕ)) (gathered : List ℕ) (had failed afailed : Bool)
    → Appends held holds gathered → failed ≡ had → StopsAmong e old all before (holding (and_gathered held gathered) audited had afailed) → StopsAmong e old all before (holding holds audited failed afailed)
among_written e old all before held holds audited gathered had failed afailed so same k = record {
  done = k.done;
  message = k.message;
  later = k.later;
  parts = k.parts;
  stops = λ job messages first r.
      let s = k.stops job messages first r in (
        s.0,
        stop_written e job (messages ++ k.done) (due job (messages ++ k.done)) k.message first (and_gathered held gathered) holds audited had failed afailed (gathered_written held holds gathered so) same s.1,
      );
}
