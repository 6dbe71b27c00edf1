-- What the program says of a fault, and its exit statuses.
use Rattle.std.specs.Prelude.{◌≡◌, ◌⊎◌, ℕ, Bool, false, List, [], ◌++◌, codes, Option, Some, None, IfSome}
use Rattle.std.specs.declared.io.Error.{Error}
use Rattle.std.specs.Fmt.{decimal, with_newline}
use Rattle.std.specs.Io.KnownBytes.{Appends}
use Rattle.ipmd_command_line.specs.declared.fault.Fault.{Fault as CommandLineFault}
use Rattle.ipmd_command_line.specs.declared.fault.Fault.TheVariants as command
use Rattle.policy_text.specs.FaultTexts.{text_of_kind}
use Rattle.mediator_state.specs.FaultTexts.{text_of_fault}
use Rattle.ipfix_reader.specs.Texts.{text_of_framing}
use Rattle.policy_text.specs.declared.fault.FaultKind.{FaultKind}
use Rattle.policy_text.specs.declared.fault.FaultKind.TheVariants as kind
use Rattle.policy_text.specs.declared.fault.Fault.{Fault as PolicyFault}
use Rattle.mediator_state.specs.declared.fault.Fault.{Fault as MediatorFault}
use Rattle.mediator_state.specs.declared.fault.Fault.TheVariants as mediator
use Rattle.mediator_offline.specs.declared.job.Fault.{Fault as OfflineFault}
use Rattle.mediator_offline.specs.declared.job.Fault.TheVariants as offline
use Rattle.replay_text.specs.declared.fault.Fault.{Fault as CallsFault}
use Rattle.replay_text.specs.declared.fault.Fault.TheVariants as calls
use Rattle.ipmd_settings.specs.Names.{settings_fault_text as text_of_settings}
use Rattle.ipmd_settings.specs.declared.fault.Fault.{Fault as SettingsFault}
use Rattle.ipmd_settings.specs.declared.fault.Fault.TheVariants as settings
use Rattle.journal_files.specs.FaultTexts.{journal_fault_text as text_of_journal}
use Rattle.journal_files.specs.declared.fault.Fault.{Fault as JournalFault}
use Rattle.journal_files.specs.declared.fault.Fault.TheVariants as journal
use Rattle.ipmd_commands.specs.Absent.{text_of_absent}
use Rattle.ipmd_commands.specs.Failures.{IsFailureLine, failed_at}
use Rattle.ipmd_commands.specs.declared.failure.Failure.{Failure}
use Rattle.ipmd_commands.specs.declared.failure.Place.TheVariants as placed
use Rattle.ipmd_commands.specs.declared.fault.Fault.{Fault}
use Rattle.ipmd_commands.specs.declared.fault.Fault.TheVariants.{CommandLine, Settings, Policy, Hex, Framing, Mediator, Cut, Calls, Journal, History, Absent, Close, OutOfMemory, Device}

-- 1: what was read is refused, or memory runs out; 2: the command line is refused; 3: a file, a stream or an address fails
abbrev pub status_of : Fault → ℕ
status_of (CommandLine _) = 2
status_of (Settings _) = 1
status_of (Policy _) = 1
status_of Hex = 1
status_of (Framing _) = 1
status_of (Mediator _) = 1
status_of Cut = 1
status_of (Calls _) = 1
status_of (Journal _) = 1
status_of (History _) = 1
status_of (Absent _) = 1
status_of Close = 1
status_of OutOfMemory = 1
status_of (Device _) = 3

-- what is said of a fault; of a command line that is the parser's text, which isn't told here
abbrev pub text_of : Fault → Option (List ℕ)
text_of (CommandLine _) = None
text_of (Settings why) = Some (codes "ipmd: settings: " ++ text_of_settings why)
text_of (Policy why) = Some (codes "ipmd: policy line " ++ decimal why.line ++ codes ": " ++ text_of_kind why.kind)
text_of Hex = Some (codes "ipmd: hex")
text_of (Framing why) = Some (codes "ipmd: framing " ++ text_of_framing why)
text_of (Mediator why) = Some (codes "ipmd: " ++ text_of_fault why)
text_of Cut = Some (codes "ipmd: Cut")
text_of (Calls line) = Some (codes "ipmd: calls line " ++ decimal line)
text_of (Journal why) = Some (codes "ipmd: journal " ++ text_of_journal why)
text_of (History position) = Some (codes "ipmd: journal BadHistory " ++ decimal position)
text_of (Absent what) = Some (codes "ipmd: journal " ++ text_of_absent what)
text_of Close = Some (codes "ipmd: close")
text_of OutOfMemory = Some (codes "ipmd: OutOfMemory")
text_of (Device _) = Some (codes "ipmd: device")

-- on a line of its own
abbrev pub line_of_fault : Fault → Option (List ℕ)
line_of_fault e = with_newline (text_of e)

-- this was written, unless the stream for errors failed
abbrev pub TellsLine : Option (List ℕ) → Bool → Option (List ℕ) → Option (List ℕ) → Type 0
TellsLine line has_failed held holds = has_failed ≡ false → IfSome line (Appends held holds)

-- what failed was named on a line, or there was no memory for that
abbrev pub NamesFailure : Failure → Bool → Option (List ℕ) → Option (List ℕ) → Type 0
NamesFailure failure has_failed held holds = has_failed ≡ false → (note : List ℕ) × ((note ≡ []) ⊎ IsFailureLine failure note) × Appends held holds note

-- what is said before a fault: of a device that failed a line that names it, or nothing; of any other fault nothing
abbrev pub IsNoteOf : Fault → List ℕ → Type 0
IsNoteOf (Device (Some failure)) note = (note ≡ []) ⊎ IsFailureLine failure note
IsNoteOf _ note = note ≡ []

abbrev pub NamesDevice : Fault → Bool → Option (List ℕ) → Option (List ℕ) → Type 0
NamesDevice e has_failed held holds = has_failed ≡ false → (note : List ℕ) × IsNoteOf e note × Appends held holds note

-- that was said, and then the fault
abbrev pub Blames : Fault → Bool → Option (List ℕ) → Option (List ℕ) → Type 0
Blames e has_failed held holds = has_failed ≡ false → (note : List ℕ) × IsNoteOf e note × IfSome (line_of_fault e) (λ line. Appends held holds (note ++ line))

-- a command line that is refused for want of memory isn't at fault
abbrev pub command_line_fault_of : CommandLineFault → Fault
command_line_fault_of (command.Refused why) = CommandLine why
command_line_fault_of command.OutOfMemory = OutOfMemory

-- settings that are refused for want of memory aren't at fault
abbrev pub settings_fault_of : SettingsFault → Fault
settings_fault_of settings.OutOfMemory = OutOfMemory
settings_fault_of settings.TooLong = Settings settings.TooLong
settings_fault_of settings.Toml = Settings settings.Toml
settings_fault_of (settings.Key key) = Settings (settings.Key key)

-- a policy that is refused for want of memory isn't at fault
abbrev pub policy_fault_of : PolicyFault → FaultKind → Fault
policy_fault_of fault kind.OutOfMemory = OutOfMemory
policy_fault_of fault kind.NoHeader = Policy fault
policy_fault_of fault kind.UnknownWord = Policy fault
policy_fault_of fault kind.BadName = Policy fault
policy_fault_of fault kind.BadNumber = Policy fault
policy_fault_of fault kind.BadPrefix = Policy fault
policy_fault_of fault kind.BadTruncate = Policy fault
policy_fault_of fault kind.BadDegrade = Policy fault
policy_fault_of fault kind.UnknownAggregate = Policy fault
policy_fault_of fault kind.DoubleAggregate = Policy fault
policy_fault_of fault kind.BadKey = Policy fault
policy_fault_of fault kind.TooMany = Policy fault

-- what the mediator refuses
abbrev pub mediator_fault_of : MediatorFault → Fault
mediator_fault_of (mediator.Policy why) = policy_fault_of why why.kind
mediator_fault_of mediator.OutOfMemory = OutOfMemory
mediator_fault_of why = Mediator why

-- why a stream was not filtered to its end, where its ends failed so; which file has the audit isn't known here
abbrev pub offline_fault_of : Error → Error → OfflineFault → Fault
offline_fault_of input output offline.Read = failed_at placed.Input input
offline_fault_of input output (offline.Write sent) = failed_at placed.Output output
offline_fault_of input output offline.Turns = failed_at placed.Input input
offline_fault_of input output offline.AuditWrite = Device None
offline_fault_of input output (offline.Framing why) = Framing why
offline_fault_of input output (offline.Mediator why) = mediator_fault_of why
offline_fault_of input output offline.Cut = Cut

-- a list of calls that is refused for want of memory isn't at fault
abbrev pub calls_fault_of : CallsFault → Fault
calls_fault_of (calls.Line n) = Calls n
calls_fault_of calls.OutOfMemory = OutOfMemory

-- why no more was read or written of a journal's file, whose path isn't known here; want of memory is no fault of the file
abbrev pub read_fault_of : JournalFault → Fault
read_fault_of journal.BadMagic = Journal journal.BadMagic
read_fault_of journal.BadVersion = Journal journal.BadVersion
read_fault_of journal.Truncated = Journal journal.Truncated
read_fault_of journal.BadEntry = Journal journal.BadEntry
read_fault_of journal.Read = Device None
read_fault_of (journal.Write sent) = Device None
read_fault_of journal.OutOfMemory = OutOfMemory
