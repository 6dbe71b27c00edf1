-- What the whole program does, and why it doesn't.
use Rattle.std.specs.Prelude.{◌≡◌, ◌⊎◌, ℕ, Bool, List, Option, Some, None}
use Rattle.std.specs.Borrow.{Bor}
use Rattle.std.specs.Io.KnownBytes.{Keeps}
use Rattle.octet_io.specs.Moments.{Writer}
use Rattle.clap.specs.Words.{kind_of}
use Rattle.clap.specs.declared.error.Error.{Error}
use Rattle.mediator_offline.specs.declared.job.OfflineReport.{OfflineReport}
use Rattle.ipmd_command_line.specs.CommandLine.{AsksForTask, RefusesWords}
use Rattle.ipmd_command_line.specs.declared.fault.Fault.{Fault as CommandLineFault}
use Rattle.ipmd_command_line.specs.declared.task.ReplayOptions.{ReplayOptions}
use Rattle.ipmd_command_line.specs.declared.task.OfflineOptions.{OfflineOptions}
use Rattle.ipmd_command_line.specs.declared.task.VerifyOptions.{VerifyOptions}
use Rattle.ipmd_command_line.specs.declared.task.ExplainOptions.{ExplainOptions}
use Rattle.ipmd_command_line.specs.declared.task.Task.TheVariants.{Offline, CheckPolicy, Replay, Serve, Verify, Explain, Show}
use Rattle.ipmd_command_line.specs.declared.task.PolicySource.{PolicySource}
use Rattle.ipmd_commands.specs.declared.fault.Fault.{Fault as ProgramFault}
use Rattle.ipmd_commands.specs.Runs.{CountsPolicy, FiltersInput, RefusesToCount, RefusesToFilter, RefusesToShow, ShowsText, line_of_report}
use Rattle.ipmd_commands.specs.Status.{command_line_fault_of, Blames, TellsLine}
use Rattle.ipmd_verify.specs.Verifying.{VerifiesFile, RefusesToVerifyFile}
use Rattle.ipmd_explain.specs.Answers.{ExplainsFile, RefusesToExplainFile, question_of}
use Rattle.ipmd.specs.Replays.{Replays, RefusesToReplay}
use Rattle.ipmd.specs.Serving.{ServesRuns, RefusesToPrepare, StopsServingRuns}

-- ---- what leaves the stream for errors alone

-- a report comes from filtering
abbrev pub DoesAlone : List (List ℕ) → Option OfflineReport → Option (List ℕ) → Option (List ℕ) → Option (List ℕ) → Type 0
DoesAlone words (Some report) given held holds = (options : OfflineOptions) × AsksForTask words (Offline options) × FiltersInput options report given held holds
DoesAlone words None given held holds =
    ((source : PolicySource) × AsksForTask words (CheckPolicy source) × CountsPolicy source held holds)
    ⊎ (((options : ReplayOptions) × AsksForTask words (Replay options) × Replays held holds)
    ⊎ (((options : VerifyOptions) × AsksForTask words (Verify options) × VerifiesFile options.quiet held holds)
    ⊎ (((options : ExplainOptions) × AsksForTask words (Explain options) × ExplainsFile (question_of options) held holds)
    ⊎ ((shown : Error) × AsksForTask words (Show shown) × ShowsText (kind_of shown) held holds))))

-- the words ask for nothing, or memory ran out
abbrev pub RefusesCommandLine : List (List ℕ) → ProgramFault → Type 0
RefusesCommandLine words e = (fault : CommandLineFault) × (e ≡ command_line_fault_of fault) × RefusesWords words fault

-- why it isn't done, and what was written; of a server all that comes before it serves
abbrev pub FailsAlone : List (List ℕ) → ProgramFault → Option (List ℕ) → Option (List ℕ) → Option (List ℕ) → Type 0
FailsAlone words e given held holds =
    (RefusesCommandLine words e × Keeps held holds)
    ⊎ (((source : PolicySource) × AsksForTask words (CheckPolicy source) × RefusesToCount source e held holds)
    ⊎ (((options : OfflineOptions) × AsksForTask words (Offline options) × RefusesToFilter options e given held holds)
    ⊎ (((options : ReplayOptions) × AsksForTask words (Replay options) × RefusesToReplay options e held holds)
    ⊎ (((path : Bor (List ℕ)) × AsksForTask words (Serve path) × RefusesToPrepare path.now e × Keeps held holds)
    ⊎ (((options : VerifyOptions) × AsksForTask words (Verify options) × RefusesToVerifyFile options e held holds)
    ⊎ (((options : ExplainOptions) × AsksForTask words (Explain options) × RefusesToExplainFile options e held holds)
    ⊎ ((shown : Error) × AsksForTask words (Show shown) × RefusesToShow (kind_of shown) e held holds)))))))

-- ---- what is done

-- a server was run
abbrev pub DoesServe : List (List ℕ) → Option (List ℕ) → Option (List ℕ) → Type 0
DoesServe words held holds = (path : Bor (List ℕ)) × AsksForTask words (Serve path) × ServesRuns held holds

abbrev pub FailsServing : List (List ℕ) → ProgramFault → Option (List ℕ) → Option (List ℕ) → Type 0
FailsServing words e held holds = (path : Bor (List ℕ)) × AsksForTask words (Serve path) × StopsServingRuns e held holds

-- a server's run has notes, so nothing is told of what the stream for errors holds after it; anything else leaves it as it was
abbrev pub Does : {D : Type 0} → List (List ℕ) → Option OfflineReport → Option (List ℕ) → Option (List ℕ) → Option (List ℕ) → D → D → Type 0
Does words report given held holds before after =
    ((after ≡ before) × DoesAlone words report given held holds) ⊎ ((report ≡ None) × DoesServe words held holds)

abbrev pub FailsFor : {D : Type 0} → List (List ℕ) → ProgramFault → Option (List ℕ) → Option (List ℕ) → Option (List ℕ) → D → D → Type 0
FailsFor words e given held holds before after =
    ((after ≡ before) × FailsAlone words e given held holds) ⊎ FailsServing words e held holds

-- ---- what is said

-- a stream that was filtered is reported, and of anything else nothing is said
abbrev pub Reports : Option OfflineReport → Bool → Option (List ℕ) → Option (List ℕ) → Type 0
Reports (Some report) has_failed held holds = TellsLine (Some (line_of_report report)) has_failed held holds
Reports None has_failed held holds = Keeps held holds

-- what the words ask for was done, and was reported; a server's notes aren't told
abbrev pub IsDone : List (List ℕ) → Option (List ℕ) → Writer → Writer → Bool → Type 0
IsDone words given output errors has_failed =
    ((report : Option OfflineReport) × DoesAlone words report given output.held output.holds × Reports report has_failed errors.held errors.holds)
    ⊎ DoesServe words output.held output.holds

-- a fault has a cause and is told, behind a line that names what failed where a device did; where a server was run, behind its notes
abbrev pub IsFault : List (List ℕ) → ProgramFault → Option (List ℕ) → Writer → Writer → Bool → Type 0
IsFault words e given output errors has_failed =
    (FailsAlone words e given output.held output.holds × Blames e has_failed errors.held errors.holds)
    ⊎ (FailsServing words e output.held output.holds × ((notes : Option (List ℕ)) × Blames e has_failed notes errors.holds))
