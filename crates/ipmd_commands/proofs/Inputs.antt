-- An input that is hexadecimal text: what is known of what it spells is known of it.
use Rattle.std.proofs.Common.{refl, inl, inr, subst, subst₂, ◌∙◌, ℕ, List, [], Bool, true, Option, Some, None, ◌≡◌}
use Rattle.std.specs.List.{concat}
use Rattle.std.specs.Io.KnownBytes.{Appends, Keeps}
use Rattle.octet_io.specs.Moments.{writer_of}
use Rattle.ipfix_message.specs.Framing.{IsFramed}
use Rattle.mediator_offline.proofs.Framed.{meant_are_cut}
use Rattle.mediator_offline.specs.Offline.{disclosed_by}
use Rattle.mediator_offline.specs.Ports.{Ports, sound_ports}
use Rattle.mediator_offline.specs.Filtering.{FiltersAll, FailsToFilter}
use Rattle.mediator_offline.specs.declared.job.Fault.{Fault as OfflineFault}
use Rattle.std.specs.Prelude.{IfErr, IfOk, IfSome, is_some, Result, Ok, Err}
use Rattle.mediator_offline.specs.declared.job.OfflineJob.{OfflineJob}
use Rattle.mediator_offline.specs.declared.job.OfflineReport.{OfflineReport}
use Rattle.std.specs.Borrow.{Bor}
use Rattle.ipmd_command_line.specs.declared.task.OfflineOptions.{OfflineOptions}
use Rattle.ipmd_commands.specs.declared.fault.Fault.{Fault}
use Rattle.ipmd_commands.specs.HexText.{SpelledBy, hex_lines, WritesLines, WritesSomeLines}
use Rattle.ipmd_commands.proofs.Lines.{all_written, kept}
use Rattle.ipmd_commands.specs.Runs.{AskedJob, FinishesInput, FinishesLines, FinishesOn, IsSourceText, EndsOn, EndsOver, FailsLines, FailsOn, RefusesInput, StopsHexLines, StopsOnFault}

-- a stream over memory, which was empty, is the messages that were written, and so its lines are theirs
due_lines : (job : OfflineJob) (report : OfflineReport) (octets stream : List ℕ) (held holds audit_held audit_holds : Option (List ℕ))
    (done : FinishesOn job report (Some octets) (writer_of (Some []) (Some stream)) (writer_of audit_held audit_holds)) → WritesLines stream held holds → Appends held holds (hex_lines done.filters.done.written)
due_lines job report octets stream held holds audit_held audit_holds done lines =
    subst (λ ms. Appends held holds (hex_lines ms))
    (meant_are_cut done.filters.done.written lines.messages (disclosed_by job done.filters.messages) lines.cut.0 lines.cut.1 done.filters.done.filters.means
    (subst (λ s. IsFramed s lines.messages lines.cut.0 lines.cut.1) (joined done.after.outputs.written done.filters.done.writes.stream done.flushed) lines.cut.2))
    lines.written
  where
    joined : (written : Option (List ℕ)) → Appends (Some []) written (concat done.filters.done.written) → Keeps written (Some stream) → stream ≡ concat done.filters.done.written
    joined None a k = absurd a
    joined (Some octets) a k = k ∙ a

pub finishes_lines : (job : OfflineJob) (report : OfflineReport) (octets stream : List ℕ) (before after held holds audit_held audit_holds : Option (List ℕ))
    → before ≡ Some [] → after ≡ Some stream → FinishesOn job report (Some octets) (writer_of before after) (writer_of audit_held audit_holds) → WritesLines stream held holds
    → FinishesLines job report octets (writer_of held holds) (writer_of audit_held audit_holds)
finishes_lines job report octets stream before after held holds audit_held audit_holds empty filled done lines =
    let over = subst₂ (λ b a. FinishesOn job report (Some octets) (writer_of b a) (writer_of audit_held audit_holds)) empty filled done in
    record { stream = stream; finishes = over; lines = due_lines job report octets stream held holds audit_held audit_holds over lines }

pub stops_lines : (job : OfflineJob) (e : Fault) (octets stream : List ℕ) (before after held holds audit_held audit_holds : Option (List ℕ))
    → before ≡ Some [] → after ≡ Some stream → StopsOnFault e job (Some octets) (writer_of before after) (writer_of audit_held audit_holds) → WritesLines stream held holds
    → StopsHexLines e job octets (writer_of held holds) (writer_of audit_held audit_holds)
stops_lines job e octets stream before after held holds audit_held audit_holds empty filled stops lines =
    record { stream = stream; stops = subst₂ (λ b a. StopsOnFault e job (Some octets) (writer_of b a) (writer_of audit_held audit_holds)) empty filled stops; lines = lines }

pub finishes_spelled : (given held holds audit_held audit_holds : Option (List ℕ)) (octets : List ℕ) (job : OfflineJob) (report : OfflineReport)
    → IfSome given (λ text. SpelledBy text octets) → FinishesLines job report octets (writer_of held holds) (writer_of audit_held audit_holds) → FinishesInput true job report given (writer_of held holds) (writer_of audit_held audit_holds)
finishes_spelled None held holds audit_held audit_holds octets job report spelled done = tt
finishes_spelled (Some text) held holds audit_held audit_holds octets job report spelled done = (octets, spelled, done)

pub fails_spelled : (given held holds audit_held audit_holds : Option (List ℕ)) (octets : List ℕ) (job : OfflineJob) (e : Fault)
    → IfSome given (λ text. SpelledBy text octets) → FailsLines e job octets (writer_of held holds) (writer_of audit_held audit_holds) → RefusesInput e true job given (writer_of held holds) (writer_of audit_held audit_holds)
fails_spelled None held holds audit_held audit_holds octets job e spelled fails = inr tt
fails_spelled (Some text) held holds audit_held audit_holds octets job e spelled fails = inr (octets, spelled, fails)

-- ---- a run that ended, by the two clauses of its answer

-- and then the output and the audit were flushed
pub ran : (job : OfflineJob) (r : Result OfflineReport OfflineFault) (given held holds audit_held audit_holds : Option (List ℕ)) (after : Ports)
    → IfOk r (λ report. FiltersAll job report (sound_ports given held audit_held) after)
    → IfErr r (λ fault. FailsToFilter fault job (sound_ports given held audit_held) after)
    → Keeps after.outputs.written holds → Keeps after.outputs.audited audit_holds → EndsOn job given (writer_of held holds) (writer_of audit_held audit_holds)
ran job (Ok report) given held holds audit_held audit_holds after filters fails flushed audit_flushed =
    inl (report, record { after = after; filters = filters; flushed = flushed; audit_flushed = audit_flushed })
ran job (Err fault) given held holds audit_held audit_holds after filters fails flushed audit_flushed =
    inr (fault, record { after = after; fails = fails; flushed = flushed; audit_flushed = audit_flushed })

-- over memory that was empty
pub ends_over : (job : OfflineJob) (octets stream : List ℕ) (r : Result OfflineReport Fault) (before after audit_held audit_holds : Option (List ℕ)) → before ≡ Some [] → after ≡ Some stream
    → IfOk r (λ report. FinishesOn job report (Some octets) (writer_of before after) (writer_of audit_held audit_holds)) → IfErr r (λ e. FailsOn e job (Some octets) (writer_of before after) (writer_of audit_held audit_holds))
    → EndsOver job octets stream (writer_of audit_held audit_holds)
ends_over job octets stream (Ok report) before after audit_held audit_holds empty filled finishes fails =
    inl (report, subst₂ (λ b a. FinishesOn job report (Some octets) (writer_of b a) (writer_of audit_held audit_holds)) empty filled finishes)
ends_over job octets stream (Err e) before after audit_held audit_holds empty filled finishes fails =
    inr (e, subst₂ (λ b a. FailsOn e job (Some octets) (writer_of b a) (writer_of audit_held audit_holds)) empty filled fails)

pub whole_lines : (stream : List ℕ) (held holds : Option (List ℕ)) → WritesLines stream held holds → WritesSomeLines stream held holds
whole_lines stream held holds lines = inr (record { messages = lines.messages; cut = lines.cut; written = all_written held holds holds (hex_lines lines.messages) lines.written (kept holds) })

pub fails_lines : (job : OfflineJob) (e : Fault) (octets stream : List ℕ) (before after held holds audit_held audit_holds : Option (List ℕ)) → before ≡ Some [] → after ≡ Some stream
    → EndsOver job octets stream (writer_of audit_held audit_holds) → WritesLines stream held holds → FailsOn e job (Some octets) (writer_of before after) (writer_of audit_held audit_holds)
    → FailsLines e job octets (writer_of held holds) (writer_of audit_held audit_holds)
fails_lines job e octets stream before after held holds audit_held audit_holds empty filled ends lines (inl stops) =
    inl (stops_lines job e octets stream before after held holds audit_held audit_holds empty filled stops lines)
fails_lines job e octets stream before after held holds audit_held audit_holds empty filled ends lines (inr (is, how)) =
    inr (inr is, record { stream = stream; ends = ends; lines = whole_lines stream held holds lines })

-- the job of these options by this policy
abbrev pub asked_for : (options : OfflineOptions) (policy : Bor (List ℕ)) (text : List ℕ) (audit : Bool) → IsSourceText options.policy text → policy.now ≡ text → audit ≡ is_some options.audit → AskedJob options
asked_for options policy text audit source is asked = record {
  text = text;
  source_is = source;
  job = record { policy = policy; name = options.subscriber; now = options.now; target = options.target; turns = 18446744073709551615; audit = audit };
  job_is = record { policy = is; name = refl; now = refl; target = refl; turns = refl; audit = asked };
}
