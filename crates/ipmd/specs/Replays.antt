-- What `ipmd replay` does: the calls that a text lists are made on a new mediator, and the answer to each is written.
use Rattle.std.specs.Prelude.{◌≡◌, ◌⊎◌, ℕ, List, Option, Some, IfSome, Ok, Err}
use Rattle.std.specs.Io.KnownBytes.{Appends, Keeps}
use Rattle.mediator_state.specs.declared.fault.Fault.TheVariants as fault
use Rattle.mediator_calls.specs.Limited.{AreAllowed}
use Rattle.replay_text.specs.declared.call_list.CallList.{CallList}
use Rattle.replay_text.specs.Lists.{asked_calls, calls_of_text}
use Rattle.replay_text.specs.Answers.{answers_text}
use Rattle.mediator_core.specs.declared.transcript.Transcript.{Transcript}
use Rattle.mediator_core.specs.Headline.{IsRunOf, HistoryIsTheCalls, HandedIsDisclosed, HandedIsFront, DrainedIsAudited, AnsweredIsFromDisclosed}
use Rattle.ipmd_commands.specs.declared.fault.Fault.{Fault as ProgramFault}
use Rattle.ipmd_commands.specs.declared.fault.Fault.TheVariants.{CommandLine, Settings, Policy, Hex, Framing, Mediator, Cut, Calls, Journal, History, Absent, Close, OutOfMemory, Device}
use Rattle.ipmd_command_line.specs.declared.task.ReplayOptions.{ReplayOptions}
use Rattle.ipmd_commands.specs.declared.failure.Place.TheVariants.{Output}
use Rattle.ipmd_commands.specs.Failures.{FailedAt, FailedAtFile}
use Rattle.ipmd_commands.specs.HexText.{WritesSomeOf}

-- This is the transcript of the calls that the text lists, made one after another on a new mediator; and all that is promised of a
-- run holds of it.
pub record RunsText (text : List ℕ) (t : Transcript) : Type 0 where
  pub list : CallList
  pub read : calls_of_text text ≡ Ok (asked_calls list)
  pub steps : IsRunOf list.limits list.calls.items t
  pub history : HistoryIsTheCalls list.calls.items t
  pub disclosed : HandedIsDisclosed list.calls.items t
  pub front : HandedIsFront list.calls.items t
  pub audited : DrainedIsAudited list.calls.items t
  pub secret : AnsweredIsFromDisclosed list.limits list.calls.items t

-- the text lists calls whose limits no mediator may have
pub record HasBadLimits (text : List ℕ) : Type 0 where
  pub list : CallList
  pub read : calls_of_text text ≡ Ok (asked_calls list)
  pub bad : AreAllowed list.limits → ⊥

-- why no call of a text is made: its first line that asks for nothing, its limits, or want of memory
abbrev pub RefusesText : ProgramFault → List ℕ → Type 0
RefusesText (Calls n) text = calls_of_text text ≡ Err n
RefusesText (Mediator fault.BadLimits) text = HasBadLimits text
RefusesText OutOfMemory text = Unit {0}
RefusesText (CommandLine e) text = ⊥
RefusesText (Settings why) text = ⊥
RefusesText (Policy why) text = ⊥
RefusesText Hex text = ⊥
RefusesText (Framing why) text = ⊥
RefusesText (Mediator _) text = ⊥
RefusesText Cut text = ⊥
RefusesText (Journal why) text = ⊥
RefusesText (History position) text = ⊥
RefusesText (Absent what) text = ⊥
RefusesText Close text = ⊥
RefusesText (Device which) text = ⊥

-- the calls of a text were made, and the answers were written; what a file holds isn't told here
pub record Replays (held holds : Option (List ℕ)) : Type 0 where
  pub text : List ℕ
  pub transcript : Transcript
  pub runs : RunsText text transcript
  pub written : Appends held holds (answers_text transcript.replies.items)

-- the same, and a front of the answers was written, or all of them
pub record BeginsToAnswer (held holds : Option (List ℕ)) : Type 0 where
  pub text : List ℕ
  pub transcript : Transcript
  pub runs : RunsText text transcript
  pub written : WritesSomeOf (answers_text transcript.replies.items) held holds

-- the file of the calls can't be read, or that of the journal can't be kept
abbrev pub IsFileOf : ReplayOptions → ProgramFault → Type 0
IsFileOf options e = FailedAtFile options.calls.now e ⊎ IfSome options.journal (λ path. FailedAtFile path.now e)

-- why the calls of a file aren't answered: the file can't be read, its text is refused, its journal can't be kept, or memory ran out, and nothing was written;
-- or the output failed
abbrev pub RefusesToReplay : ReplayOptions → ProgramFault → Option (List ℕ) → Option (List ℕ) → Type 0
RefusesToReplay options (Device which) held holds = (IsFileOf options (Device which) × Keeps held holds) ⊎ (FailedAt Output (Device which) × BeginsToAnswer held holds)
RefusesToReplay options e held holds = ((text : List ℕ) × RefusesText e text) × Keeps held holds
