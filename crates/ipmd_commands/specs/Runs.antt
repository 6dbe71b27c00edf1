-- What is done for one stream or one policy, and what its faults mean.
use Rattle.std.specs.Prelude.{◌≡◌, ◌⊎◌, ◌^◌, ◌-◌, ℕ, Bool, true, false, List, [], ◌∷◌, ◌++◌, length, codes, Option, Some, None, is_some, IfSome, Ok, Err}
use Rattle.std.specs.Borrow.{Bor}
use Rattle.std.specs.declared.io.Error.{Error}
use Rattle.std.specs.Fmt.{decimal}
use Rattle.std.specs.Io.KnownBytes.{Appends, Keeps}
use Rattle.octet_io.specs.Moments.{Writer, writer_of}
use Rattle.clap.specs.declared.error.kind.ErrorKind.{ErrorKind}
use Rattle.clap.specs.declared.error.kind.ErrorKind.TheVariants.{DisplayVersion}
use Rattle.policy_text.specs.Policies.{PolicyMeaning}
use Rattle.policy_text.specs.Parsing.{policy_of}
use Rattle.mediator_offline.specs.declared.job.OfflineJob.{OfflineJob}
use Rattle.mediator_offline.specs.declared.job.OfflineReport.{OfflineReport}
use Rattle.mediator_offline.specs.declared.job.Fault.{Fault as OfflineFault}
use Rattle.mediator_offline.specs.Ports.{Ports, sound_ports}
use Rattle.mediator_offline.specs.Filtering.{FiltersAll, FailsToFilter}
use Rattle.ipmd_command_line.specs.declared.command_line.TheConstants.{KIT, VERSION}
use Rattle.ipmd_command_line.specs.declared.task.OfflineOptions.{OfflineOptions}
use Rattle.ipmd_command_line.specs.declared.task.PolicySource.{PolicySource}
use Rattle.ipmd_command_line.specs.declared.task.PolicySource.TheVariants.{File, Text}
use Rattle.ipmd_commands.specs.declared.fault.Fault.{Fault}
use Rattle.ipmd_commands.specs.declared.fault.Fault.TheVariants.{CommandLine, Settings, Policy, Hex, Framing, Mediator, Cut, Calls, Journal, History, Absent, Close, OutOfMemory, Device}
use Rattle.ipmd_commands.specs.declared.failure.Place.TheVariants as placed
use Rattle.ipmd_commands.specs.Failures.{FailedAt, IsFileFault, NamesFile}
use Rattle.ipmd_commands.specs.HexText.{SpelledBy, SpellsNothing, hex_lines, WritesLines, WritesSomeOf, WritesSomeLines}
use Rattle.replay_text.specs.LineEnds.{with_line_ends}
use Rattle.ipmd_commands.specs.Status.{offline_fault_of}

-- ---- the policy

-- the text of a policy, as words with a line feed for each semicolon; what a file holds isn't told here
abbrev pub IsSourceText : PolicySource → List ℕ → Type 0
IsSourceText (File path) text = Unit {0}
IsSourceText (Text words) text = text ≡ with_line_ends words.now

-- why there is no such text
abbrev pub IsSourceFault : PolicySource → Fault → Type 0
IsSourceFault (File path) e = IsFileFault path.now e
IsSourceFault (Text words) e = e ≡ OutOfMemory

-- ---- check-policy

-- what is said of a policy
abbrev pub policy_summary : PolicyMeaning → List ℕ
policy_summary policy = codes "rules " ++ decimal (length policy.rules) ++ codes " aggregates " ++ decimal (length policy.aggregates) ++ 10 ∷ []

-- the text is a policy, and its counts were written
pub record CountsPolicy (source : PolicySource) (held holds : Option (List ℕ)) : Type 0 where
  pub text : List ℕ
  pub source_is : IsSourceText source text
  pub policy : PolicyMeaning
  pub spelled : policy_of text ≡ Ok policy
  pub written : Appends held holds (policy_summary policy)

-- the text is a policy, and a front of its counts was written, or all of them
pub record BeginsToCount (source : PolicySource) (held holds : Option (List ℕ)) : Type 0 where
  pub text : List ℕ
  pub source_is : IsSourceText source text
  pub policy : PolicyMeaning
  pub spelled : policy_of text ≡ Ok policy
  pub written : WritesSomeOf (policy_summary policy) held holds

-- why a policy isn't counted, and what was written: its text has this fault, its file or the output failed, or memory ran out
abbrev pub RefusesToCount : PolicySource → Fault → Option (List ℕ) → Option (List ℕ) → Type 0
RefusesToCount source (Policy why) held holds = (text : List ℕ) × IsSourceText source text × (policy_of text ≡ Err why) × Keeps held holds
RefusesToCount source OutOfMemory held holds = Keeps held holds
RefusesToCount source (Device which) held holds =
    (IsSourceFault source (Device which) × Keeps held holds) ⊎ (FailedAt placed.Output (Device which) × BeginsToCount source held holds)
RefusesToCount source (CommandLine e) held holds = ⊥
RefusesToCount source (Settings why) held holds = ⊥
RefusesToCount source Hex held holds = ⊥
RefusesToCount source (Framing why) held holds = ⊥
RefusesToCount source (Mediator why) held holds = ⊥
RefusesToCount source Cut held holds = ⊥
RefusesToCount source (Calls n) held holds = ⊥
RefusesToCount source (Journal why) held holds = ⊥
RefusesToCount source (History position) held holds = ⊥
RefusesToCount source (Absent what) held holds = ⊥
RefusesToCount source Close held holds = ⊥

-- ---- help and the version

-- the version's line; the help's text is the parser's, and isn't told here
abbrev pub IsTextShown : ErrorKind → List ℕ → Type 0
IsTextShown DisplayVersion text = text ≡ codes "ipmd " ++ VERSION.now ++ codes ", proved with " ++ KIT.now ++ 10 ∷ []
IsTextShown _ text = Unit {0}

-- the help, or the version, was written
pub record ShowsText (kind : ErrorKind) (held holds : Option (List ℕ)) : Type 0 where
  pub text : List ℕ
  pub text_is : IsTextShown kind text
  pub written : Appends held holds text

-- a front of it was written, or all of it
pub record BeginsToShow (kind : ErrorKind) (held holds : Option (List ℕ)) : Type 0 where
  pub text : List ℕ
  pub text_is : IsTextShown kind text
  pub written : WritesSomeOf text held holds

-- why it isn't shown: memory ran out before, or the output failed
abbrev pub RefusesToShow : ErrorKind → Fault → Option (List ℕ) → Option (List ℕ) → Type 0
RefusesToShow kind e held holds = ((e ≡ OutOfMemory) × Keeps held holds) ⊎ (FailedAt placed.Output e × BeginsToShow kind held holds)

-- ---- offline

-- the job that the options ask for, by the policy of this text; an input ends, so it is read as often as can be said; the audit is
-- asked for where it has a file
pub record IsJobOf (options : OfflineOptions) (text : List ℕ) (job : OfflineJob) : Type 0 where
  pub policy : job.policy.now ≡ text
  pub name : job.name ≡ options.subscriber
  pub now : job.now ≡ options.now
  pub target : job.target ≡ options.target
  pub turns : job.turns ≡ 2 ^ 64 - 1
  pub audit : job.audit ≡ is_some options.audit

-- a job that the options ask for
pub record AskedJob (options : OfflineOptions) : Type 0 where
  pub text : List ℕ
  pub source_is : IsSourceText options.policy text
  pub job : OfflineJob
  pub job_is : IsJobOf options text job

-- these octets were read to their end and filtered; the output and the audit held so much when all was done, and were flushed
pub record FinishesOn (job : OfflineJob) (report : OfflineReport) (given : Option (List ℕ)) (writer audit : Writer) : Type 0 where
  pub after : Ports
  pub filters : FiltersAll job report (sound_ports given writer.held audit.held) after
  pub flushed : Keeps after.outputs.written writer.holds
  pub audit_flushed : Keeps after.outputs.audited audit.holds

-- the same, and each message that is due was written as a line
pub record FinishesLines (job : OfflineJob) (report : OfflineReport) (octets : List ℕ) (writer audit : Writer) : Type 0 where
  pub stream : List ℕ
  pub finishes : FinishesOn job report (Some octets) (writer_of (Some []) (Some stream)) audit
  pub lines : Appends writer.held writer.holds (hex_lines finishes.filters.done.written)

-- the same of the octets that a text spells
abbrev pub FinishesText : OfflineJob → OfflineReport → List ℕ → Writer → Writer → Type 0
FinishesText job report text writer audit = (octets : List ℕ) × SpelledBy text octets × FinishesLines job report octets writer audit

-- the input was, as octets or as what its text spells
abbrev pub FinishesInput : Bool → OfflineJob → OfflineReport → Option (List ℕ) → Writer → Writer → Type 0
FinishesInput false job report given writer audit = FinishesOn job report given writer audit
FinishesInput true job report given writer audit = IfSome given (λ text. FinishesText job report text writer audit)

-- the same with some audit; what a file holds isn't told here, and so not what the audit does
abbrev pub FinishesWithAudit : Bool → OfflineJob → OfflineReport → Option (List ℕ) → Writer → Type 0
FinishesWithAudit hex job report given writer = (audit : Writer) × FinishesInput hex job report given writer audit

-- the whole input was filtered for a subscriber by a policy
abbrev pub FiltersInput : OfflineOptions → OfflineReport → Option (List ℕ) → Option (List ℕ) → Option (List ℕ) → Type 0
FiltersInput options report given held holds = (asked : AskedJob options) × FinishesWithAudit options.hex asked.job report given (writer_of held holds)

-- the mediator stopped so, and what was written by then was flushed
pub record StopsBy (fault : OfflineFault) (job : OfflineJob) (given : Option (List ℕ)) (writer audit : Writer) : Type 0 where
  pub after : Ports
  pub fails : FailsToFilter fault job (sound_ports given writer.held audit.held) after
  pub flushed : Keeps after.outputs.written writer.holds
  pub audit_flushed : Keeps after.outputs.audited audit.holds

-- the same, and this is what the program makes of it
pub record StopsOnFault (e : Fault) (job : OfflineJob) (given : Option (List ℕ)) (writer audit : Writer) : Type 0 where
  pub fault : OfflineFault
  pub input : Error
  pub output : Error
  pub is : e ≡ offline_fault_of input output fault
  pub stops : StopsBy fault job given writer audit

-- a run over octets ended, by its report or by a fault, and then the output and the audit were flushed, or one of them failed
abbrev pub EndsOn : OfflineJob → Option (List ℕ) → Writer → Writer → Type 0
EndsOn job given writer audit =
    ((report : OfflineReport) × FinishesOn job report given writer audit) ⊎ ((fault : OfflineFault) × StopsBy fault job given writer audit)

-- the output failed, or the audit, whose file isn't known here
abbrev pub IsWriteFault : Fault → Type 0
IsWriteFault e = FailedAt placed.Output e ⊎ (e ≡ Device None)

-- why octets aren't filtered to their end: the mediator stopped so; or one of these failed, one that had failed before, so that nothing
-- was written, or one that was flushed when the run had ended
abbrev pub FailsOn : Fault → OfflineJob → Option (List ℕ) → Writer → Writer → Type 0
FailsOn e job given writer audit =
    StopsOnFault e job given writer audit
    ⊎ (IsWriteFault e × ((Keeps writer.held writer.holds × Keeps audit.held audit.holds) ⊎ EndsOn job given writer audit))

-- the mediator stopped so, and each message that was written by then was written as a line
pub record StopsHexLines (e : Fault) (job : OfflineJob) (octets : List ℕ) (writer audit : Writer) : Type 0 where
  pub stream : List ℕ
  pub stops : StopsOnFault e job (Some octets) (writer_of (Some []) (Some stream)) audit
  pub lines : WritesLines stream writer.held writer.holds

-- a run over these octets ended somehow, and wrote this stream
abbrev pub EndsOver : OfflineJob → List ℕ → List ℕ → Writer → Type 0
EndsOver job octets stream audit =
    ((report : OfflineReport) × FinishesOn job report (Some octets) (writer_of (Some []) (Some stream)) audit)
    ⊎ ((e : Fault) × FailsOn e job (Some octets) (writer_of (Some []) (Some stream)) audit)

-- a run ended somehow, and a front of its lines was written, or all of them
pub record EndsLines (job : OfflineJob) (octets : List ℕ) (writer audit : Writer) : Type 0 where
  pub stream : List ℕ
  pub ends : EndsOver job octets stream audit
  pub lines : WritesSomeLines stream writer.held writer.holds

abbrev pub FailsLines : Fault → OfflineJob → List ℕ → Writer → Writer → Type 0
FailsLines e job octets writer audit =
    StopsHexLines e job octets writer audit ⊎ (((e ≡ OutOfMemory) ⊎ IsWriteFault e) × EndsLines job octets writer audit)

-- why an input isn't filtered to its end, as octets or as what its text spells; a text that can't be read, or spells nothing, has
-- nothing written
abbrev pub RefusesInput : Fault → Bool → OfflineJob → Option (List ℕ) → Writer → Writer → Type 0
RefusesInput e false job given writer audit = FailsOn e job given writer audit
RefusesInput e true job given writer audit =
    ((((e ≡ Hex) × IfSome given SpellsNothing) ⊎ ((e ≡ OutOfMemory) ⊎ FailedAt placed.Input e))
    × Keeps writer.held writer.holds × Keeps audit.held audit.holds)
    ⊎ IfSome given (λ text. (octets : List ℕ) × SpelledBy text octets × FailsLines e job octets writer audit)

-- the same with an audit in the file of this path: that can't be made, or where it failed it is named
abbrev pub RefusesWithAudit : List ℕ → Fault → Bool → OfflineJob → Option (List ℕ) → Writer → Type 0
RefusesWithAudit path e hex job given writer =
    (IsFileFault path e × Keeps writer.held writer.holds)
    ⊎ ((fault : Fault) × NamesFile path fault e × (audit : Writer) × RefusesInput fault hex job given writer audit)

-- or with none
abbrev pub RefusesByAudit : Option (Bor (List ℕ)) → Fault → Bool → OfflineJob → Option (List ℕ) → Writer → Type 0
RefusesByAudit None e hex job given writer = (audit : Writer) × RefusesInput e hex job given writer audit
RefusesByAudit (Some path) e hex job given writer = RefusesWithAudit path.now e hex job given writer

-- the same for a subscriber by a policy; the policy's source may fail before
abbrev pub RefusesToFilter : OfflineOptions → Fault → Option (List ℕ) → Option (List ℕ) → Option (List ℕ) → Type 0
RefusesToFilter options e given held holds =
    (IsSourceFault options.policy e × Keeps held holds)
    ⊎ ((asked : AskedJob options) × RefusesByAudit options.audit e options.hex asked.job given (writer_of held holds))

-- what is said of a stream that was filtered
abbrev pub line_of_report : OfflineReport → List ℕ
line_of_report report =
    codes "messages " ++ decimal report.messages ++ codes " records " ++ decimal report.records ++ codes " disclosed " ++ decimal report.disclosed ++ 10 ∷ []
