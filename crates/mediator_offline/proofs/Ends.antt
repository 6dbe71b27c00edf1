-- The reading of a stream, from its start to its end.
use Rattle.std.proofs.Common.{◌≡◌, ℕ, ◌+◌, Bool, false, List, [], ◌∷◌, ◌++◌, length, take, Option, Some, None, inl, inr, refl, sym, ap, ◌∙◌, subst, arith, append-nil, append_assoc, length-append}
use Rattle.std.proofs.lemmas.List.{take_all}
use Rattle.std.specs.Io.KnownBytes.{Appends, Consumes}
use Rattle.std.proofs.KnownBytes.{Appends-nil, Consumes-nil, Consumes-trans}
use Rattle.ipfix_message.specs.Framing.{IsFramed}
use Rattle.ipfix_message.specs.declared.fault.Fault.{Fault as DecodeError}
use Rattle.ipfix_message.specs.declared.fault.Fault.TheVariants as frame
use Rattle.ipfix_reader.specs.declared.fault.Fault.{Fault as IntakeFault}
use Rattle.ipfix_reader.specs.declared.fault.Fault.TheVariants as intake
use Rattle.ipfix_reader.specs.declared.fault.FramingFault.TheVariants as framing
use Rattle.ipfix_reader.specs.Intake.{IntakeState, nothing_read, Yields, Ends, StopsIntake, StreamHasFault, reader_after as intake_reader}
use Rattle.event_journal.specs.declared.entry.Entry.{Entry}
use Rattle.mediator_history.specs.Disclosed.{disclosed}
use Rattle.subscriber_stream.specs.Parts.{parts, records_of_parts}
use Rattle.subscriber_stream.proofs.CallLaws.{parts_bring}
use Rattle.stream_meaning.specs.HandedOut.{AreHandedOut}
use Rattle.stream_meaning.proofs.Handing.{none_handed_out}
use Rattle.mediator_offline.specs.declared.job.OfflineJob.{OfflineJob}
use Rattle.mediator_offline.specs.declared.job.OfflineReport.{OfflineReport}
use Rattle.mediator_offline.specs.declared.job.Fault.{Fault}
use Rattle.mediator_offline.specs.declared.job.Fault.TheVariants.{Write, Mediator, Cut, AuditWrite}
use Rattle.mediator_offline.specs.declared.run.OfflineRun.{OfflineRun}
use Rattle.mediator_offline.specs.Ports.{Outputs, Ports, holding, with_left, sound_ports}
use Rattle.mediator_offline.specs.Faults.{reading_fault}
use Rattle.mediator_offline.specs.Failing.{FailsOnly}
use Rattle.mediator_offline.specs.Offline.{first_entries, history_of, disclosed_by, due, after_message, next_message as next_entry, end_of}
use Rattle.mediator_offline.specs.Accepting.{AreAccepted}
use Rattle.ipfix_reader.specs.Intake.{AreRead}
use Rattle.mediator_offline.specs.Filtering.{Filters, IsFiltered, FiltersAll, StopsAtMessage, StopsAtOne, StopsHere, StopsSomewhere}
use Rattle.mediator_offline.specs.Runs.{IsServing, RunStands}
use Rattle.mediator_offline.specs.Running.{IsRunOpened, IsRunning, RunsSomewhere}
use Rattle.mediator_offline.specs.Reaching.{HandlesAll, StopsAmong, IsAfter, ReachesEnd}
use Rattle.mediator_offline.proofs.Lines.{lines_for-none}
use Rattle.mediator_offline.proofs.OneMore.{fold-snoc, parts_none}
use Rattle.mediator_offline.proofs.Streams.{filtered_of, emptied}

nothing_framed : IsFramed [] [] None []
nothing_framed = record {
  tail = [];
  joined = refl;
  each = λ i e lt. absurd (omega arith);
  ends = (refl, record { version = λ le. absurd (omega arith); least = λ le. absurd (omega arith); short = λ le. absurd (omega arith) });
}

-- a run that was opened runs over no message yet
pub running_starts : {Q : Type 0} (d : OfflineRun Q) (job : OfflineJob) (before : Outputs) → IsRunOpened d job → IsRunning d job [] before before
running_starts d job before o = record {
  job_is = o.job_is;
  job_accepted = o.job_accepted;
  stands = subst (RunStands d (first_entries job)) (sym parts_none) o.stands;
  small = o.small;
  quiet = o.quiet;
  sent = o.sent;
  few = omega (arith, o.sent);
  writes = record {
    stream = Appends-nil before.written;
    audit = subst (Appends before.audited before.audited) (sym (lines_for-none job.audit)) (Appends-nil before.audited);
  };
  accepted = tt;
  handed = subst (AreHandedOut [] []) (sym parts_none) none_handed_out;
}

pub reading_starts : {Q : Type 0} (d : OfflineRun Q) (i : IntakeState) (job : OfflineJob) (before : Ports) → IsRunOpened d job → i ≡ nothing_read 65536 job.turns → IsAfter d i job before before
reading_starts d i job before o new = record {
  octets = [];
  messages = [];
  taken = Consumes-nil before.left;
  running = running_starts d job before.outputs o;
  framed = subst (λ x. IsFramed [] [] x.framing.fault x.framing.pending) (sym new) nothing_framed;
  many = omega (arith, ap (λ x. x.turns) new);
  most = ap (λ x. x.most) new;
  few = omega (arith, ap (λ x. x.turns) new);
}

-- a piece was read, and the messages that it made whole were handled
pub reads_on : {Q : Type 0} (d e : OfflineRun Q) (i k : IntakeState) (job : OfflineJob) (before mid after : Ports) (out : List (List ℕ)) → IsAfter d i job before mid
    → Yields i mid.left after.left out k → HandlesAll d e out mid.outputs after.outputs → IsAfter e k job before after
reads_on d e i k job before mid after out so takes handles = record {
  octets = so.octets ++ takes.piece;
  messages = so.messages ++ out;
  taken = Consumes-trans before.left mid.left after.left so.octets takes.piece so.taken takes.is_piece.read;
  running = handles.running job so.messages before.outputs so.running;
  framed = takes.goes_on.after so.octets so.messages so.framed;
  many = omega (arith, so.many, takes.is_piece.some, takes.turn.0, length-append so.octets takes.piece);
  most = takes.turn.1 ∙ so.most;
  few = omega (arith, so.few, so.most, takes.is_piece.few, takes.turn.0, length-append so.octets takes.piece);
}

pub runs_after : {Q : Type 0} (d : OfflineRun Q) (i : IntakeState) (job : OfflineJob) (before after : Ports) → IsAfter d i job before after → RunsSomewhere d after.outputs
runs_after d i job before after so = record { job = job; messages = so.messages; before = before.outputs; running = so.running }

-- one of these messages stops the run
pub message_stops : {Q : Type 0} (e : Fault) (d : OfflineRun Q) (i k : IntakeState) (job : OfflineJob) (before mid after : Ports) (out : List (List ℕ)) → IsAfter d i job before mid
    → Yields i mid.left after.left out k → StopsAmong e d out mid.outputs after.outputs → StopsSomewhere e job before after
message_stops e d i k job before mid after out so takes stop = record { octets = octets; taken = taken; stops = by e here }
  where
    octets : List ℕ
    octets = so.octets ++ takes.piece

    taken : Consumes before.left after.left octets
    taken = Consumes-trans before.left mid.left after.left so.octets takes.piece so.taken takes.is_piece.read

    few : AreRead 65536 job.turns octets
    few = omega (arith, so.few, so.most, takes.is_piece.few, takes.turn.0, length-append so.octets takes.piece)

    there : Filters job (so.messages ++ stop.done) (due job (so.messages ++ stop.done))
        × StopsAtMessage e job (so.messages ++ stop.done) (due job (so.messages ++ stop.done)) stop.message before.outputs after.outputs
    there = stop.stops job so.messages before.outputs so.running

    here : StopsAtOne e job octets before.outputs after.outputs
    here = record {
      messages = so.messages ++ stop.done;
      message = stop.message;
      later = stop.later;
      fault = k.framing.fault;
      pending = k.framing.pending;
      job_accepted = so.running.job_accepted;
      framed = subst (λ ms. IsFramed octets ms k.framing.fault k.framing.pending) (ap (λ t. so.messages ++ t) stop.parts ∙ sym (append_assoc so.messages stop.done (stop.message ∷ stop.later))) (takes.goes_on.after so.octets so.messages so.framed);
      written = due job (so.messages ++ stop.done);
      filters = there.0;
      stops = there.1;
    }

    by : (x : Fault) → StopsAtOne x job octets before.outputs after.outputs → StopsHere x job octets before after
    by (Mediator f) s = (inl s, few)
    by (Write sent) s = (s, few)
    by Cut s = (s, few)
    by AuditWrite s = (s, few)
    by _ s = absurd s.stops

-- ---- where the intake hands out nothing more

-- a call that read nothing leaves all as it was
same_read : (given mid left : Option (List ℕ)) (octets : List ℕ) → Consumes given mid octets → Consumes mid left [] → Consumes given left octets
same_read given mid left octets taken none = subst (Consumes given left) (append-nil octets) (Consumes-trans given mid left octets [] taken none)

done_after : {Q : Type 0} (d : OfflineRun Q) (i : IntakeState) (job : OfflineJob) (before after : Ports) → (so : IsAfter d i job before after) → i.framing.fault ≡ None
    → IsFiltered job so.octets so.messages None i.framing.pending before.outputs after.outputs
done_after d i job before after so sound =
    filtered_of d job so.octets so.messages None i.framing.pending before.outputs after.outputs so.running (subst (λ x. IsFramed so.octets so.messages x i.framing.pending) sound so.framed)

-- these octets were read, of which a message is faulty, and those before it were filtered
record ReadsFault (w : DecodeError) (job : OfflineJob) (before : Ports) (left : Option (List ℕ)) (after : Outputs) : Type 0 where
  octets : List ℕ
  messages : List (List ℕ)
  taken : Consumes before.left left octets
  few : AreRead 65536 job.turns octets
  done : IsFiltered job octets messages (Some w) [] before.outputs after

faulty : {Q : Type 0} (w : DecodeError) (d : OfflineRun Q) (i k : IntakeState) (job : OfflineJob) (before mid : Ports) (left : Option (List ℕ)) → IsAfter d i job before mid → StreamHasFault w i mid.left left k
    → ReadsFault w job before left mid.outputs
faulty w d i k job before mid left so (inl was) = record {
  octets = so.octets;
  messages = so.messages;
  taken = same_read before.left mid.left left so.octets so.taken was.1.read;
  few = omega (arith, so.few);
  done = filtered_of d job so.octets so.messages (Some w) [] before.outputs mid.outputs so.running
      (emptied w so.octets so.messages i.framing.pending (subst (λ x. IsFramed so.octets so.messages x i.framing.pending) was.0 so.framed));
}
faulty w d i k job before mid left so (inr now) = record {
  octets = so.octets ++ now.piece;
  messages = so.messages ++ [];
  taken = Consumes-trans before.left mid.left left so.octets now.piece so.taken now.is_piece.read;
  few = omega (arith, so.few, so.most, now.is_piece.few, now.turn.0, length-append so.octets now.piece);
  done = filtered_of d job (so.octets ++ now.piece) (so.messages ++ []) (Some w) [] before.outputs mid.outputs
      (subst (λ ms. IsRunning d job ms before.outputs mid.outputs) (sym (append-nil so.messages)) so.running)
      (emptied w (so.octets ++ now.piece) (so.messages ++ []) k.framing.pending (subst (λ x. IsFramed (so.octets ++ now.piece) (so.messages ++ []) x k.framing.pending) now.fault_is (now.goes_on.after so.octets so.messages so.framed)));
}

-- the reader has this left then, and has failed or not; the outputs are as they were
pub intake_stops : {Q : Type 0} (w : IntakeFault) (d : OfflineRun Q) (i k : IntakeState) (job : OfflineJob) (before mid : Ports) (left : Option (List ℕ)) (failed : Bool) → IsAfter d i job before mid
    → StopsIntake w i mid.left left k → failed ≡ intake_reader w false → StopsSomewhere (reading_fault w) job before (with_left left failed mid.outputs)
intake_stops intake.Read d i k job before mid left failed so stops fails = record {
  octets = so.octets;
  taken = same_read before.left mid.left left so.octets so.taken stops.read;
  stops = ((so.messages, i.framing.pending, done_after d i job before mid so stops.sound), omega (arith, so.few, stops.turn.0), fails);
}
intake_stops (intake.Framing framing.BadVersion) d i k job before mid left failed so stops fails =
    let f = faulty frame.BadVersion d i k job before mid left so stops in record { octets = f.octets; taken = f.taken; stops = ((f.messages, f.done), f.few) }
intake_stops (intake.Framing framing.BadLength) d i k job before mid left failed so stops fails =
    let f = faulty frame.BadLength d i k job before mid left so stops in record { octets = f.octets; taken = f.taken; stops = ((f.messages, f.done), f.few) }
intake_stops (intake.Framing framing.CutOff) d i k job before mid left failed so stops fails = record {
  octets = so.octets;
  taken = same_read before.left mid.left left so.octets so.taken stops.read;
  stops = ((so.messages, i.framing.pending, done_after d i job before mid so stops.sound, stops.pending), omega (arith, so.few, stops.turn.0), stops.end);
}
intake_stops intake.Turns d i k job before mid left failed so stops fails = record {
  octets = so.octets;
  taken = same_read before.left mid.left left so.octets so.taken stops.2.read;
  stops = ((so.messages, i.framing.pending, done_after d i job before mid so stops.0), omega (arith, so.many, stops.1), omega (arith, so.few, stops.1));
}
intake_stops intake.OutOfMemory d i k job before mid left failed so stops fails = record {
  octets = so.octets ++ stops.piece;
  taken = Consumes-trans before.left mid.left left so.octets stops.piece so.taken stops.is_piece.read;
  stops = (
    inr (record {
      memory = refl;
      fed = so.octets;
      piece = stops.piece;
      parts = refl;
      few = omega (arith, so.most, stops.is_piece.few);
      messages = so.messages;
      pending = i.framing.pending;
      done = done_after d i job before mid so stops.sound;
    }),
    omega (arith, so.few, so.most, stops.is_piece.few, stops.turn.0, length-append so.octets stops.piece),
  );
}

-- only a failed read leaves a failed device
pub intake_only : (w : IntakeFault) (e : Fault) (had failed audit_had afailed rfailed : Bool) → e ≡ reading_fault w → rfailed ≡ intake_reader w false → failed ≡ had → afailed ≡ audit_had → FailsOnly e had audit_had rfailed failed afailed
intake_only intake.Read e had failed audit_had afailed rfailed is fails same audit_same = rw is (record { reader = fails; writer = same; audit = audit_same })
intake_only (intake.Framing why) e had failed audit_had afailed rfailed is fails same audit_same = rw is (record { reader = fails; writer = same; audit = audit_same })
intake_only intake.Turns e had failed audit_had afailed rfailed is fails same audit_same = rw is (record { reader = fails; writer = same; audit = audit_same })
intake_only intake.OutOfMemory e had failed audit_had afailed rfailed is fails same audit_same = rw is (record { reader = fails; writer = same; audit = audit_same })

pub stream_ends : {Q : Type 0} (d : OfflineRun Q) (i k : IntakeState) (job : OfflineJob) (before mid : Ports) (left : Option (List ℕ)) (failed : Bool) → IsAfter d i job before mid → Ends i mid.left left k
    → ReachesEnd d job before (with_left left failed mid.outputs)
stream_ends d i k job before mid left failed so ends = record {
  octets = so.octets;
  messages = so.messages;
  taken = same_read before.left mid.left left so.octets so.taken ends.read;
  end = ends.end;
  framed = subst (λ x. IsFramed so.octets so.messages x.fault x.pending) ends.whole so.framed;
  turns = omega (arith, so.few, ends.turn.0);
  running = so.running;
}

-- ---- the report of a run that read all

history_length : (job : OfflineJob) (before messages : List (List ℕ)) → AreAccepted job before messages → length (history_of job (before ++ messages)) ≡ length (history_of job before) + length messages
history_length job before [] so = ap (λ ms. length (history_of job ms)) (append-nil before) ∙ none
  where
    none : length (history_of job before) ≡ length (history_of job before) + 0
    none = omega arith
history_length job before (m ∷ messages) so =
    ap (λ ms. length (history_of job ms)) (sym (append_assoc before (m ∷ []) messages))
    ∙ omega (arith, history_length job (before ++ m ∷ []) messages so.1, one)
  where
    one : length (history_of job (before ++ m ∷ [])) ≡ length (history_of job before) + 1
    one = ap length (fold-snoc after_message (first_entries job) before m ∙ ap (λ cuts. history_of job before ++ (cuts ++ next_entry (history_of job before) m ∷ [])) so.0.1)
        ∙ length-append (history_of job before) (next_entry (history_of job before) m ∷ [])

pub finishes : {Q : Type 0} (d : OfflineRun Q) (job : OfflineJob) (report : OfflineReport) (before after : Ports) → ReachesEnd d job before after
    → report.messages ≡ d.messages → report.records ≡ d.records → ((h : List Entry) (p : ℕ) → RunStands d h p → report.disclosed ≡ length (records_of_parts (take p (parts (disclosed 1 h))))) → FiltersAll job report before after
finishes d job report before after r entries records handed = record {
  octets = r.octets;
  messages = r.messages;
  taken = r.taken;
  end = r.end;
  turns = r.turns;
  done = filtered_of d job r.octets r.messages None [] before.outputs after.outputs r.running r.framed;
  counted = omega (arith, entries, r.running.stands.messages, r.running.stands.counted, history_length job [] r.messages r.running.accepted);
  recorded = records ∙ r.running.stands.records;
  disclosed = handed (history_of job r.messages) (end_of (history_of job r.messages)) r.running.stands
      ∙ ap (λ ps. length (records_of_parts ps)) (take_all (end_of (history_of job r.messages)) (parts (disclosed_by job r.messages)) (omega arith)) ∙ ap length (parts_bring (disclosed_by job r.messages));
}

pub end_serves : {Q : Type 0} (d : OfflineRun Q) (job : OfflineJob) (before after : Ports) → ReachesEnd d job before after → IsServing d
end_serves d job before after r = record { history = history_of job r.messages; place = end_of (history_of job r.messages); stands = r.running.stands }

-- ---- ports of which none had failed

-- what holds of ports that have failed or not holds of those that haven't, where they haven't
pub where_unfailed : (P : Ports → Type 0) (left written audited : Option (List ℕ)) (reader writer audit : Bool) → reader ≡ false → writer ≡ false → audit ≡ false
    → P (with_left left reader (holding written audited writer audit)) → P (sound_ports left written audited)
where_unfailed P left written audited reader writer audit r w a so =
    subst (λ x. P (with_left left x (holding written audited false false))) r
    (subst (λ x. P (with_left left reader (holding written audited x false))) w
    (subst (λ x. P (with_left left reader (holding written audited writer x))) a so))
