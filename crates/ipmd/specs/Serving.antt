-- What `ipmd serve` does, as far as it can be told: what comes from other threads, from sockets and from files isn't told here.
use Rattle.std.specs.Prelude.{◌≡◌, ◌⊎◌, ℕ, ◌+◌, ◌≤◌, ◌<◌, Bool, true, false, not, ◌&&◌, List, ◌∷◌, [], ◌++◌, length, codes, string_bytes, Option, None, Ok, unwrap_or}
use Rattle.std.specs.List.{flat_map}
use Rattle.std.specs.Fmt.{decimal}
use Rattle.std.specs.Io.KnownBytes.{Appends, Keeps}
use Rattle.event_journal.specs.declared.entry.Entry.{Entry}
use Rattle.event_journal.specs.LastEdit.{last_edit}
use Rattle.mediator_calls.specs.Limited.{AreAllowed}
use Rattle.ipmd_settings.specs.Asked.{AskedService, pairs}
use Rattle.ipmd_settings.specs.Faults.{IsSettingsFault}
use Rattle.ipmd_settings.specs.Reading.{settings_of}
use Rattle.mediator_server.specs.Listening.{IsServed}
use Rattle.mediator_server.specs.declared.plan.RunPlan.{RunPlan}
use Rattle.mediator_server.specs.declared.listening.Ended.{Ended}
use Rattle.mediator_server.specs.declared.listening.Fault.{Fault as ListenFault}
use Rattle.mediator_server.specs.declared.listening.Fault.TheVariants as listen
use Rattle.ipmd_commands.specs.declared.fault.Fault.{Fault as ProgramFault}
use Rattle.ipmd_commands.specs.declared.fault.Fault.TheVariants.{CommandLine, Settings, Policy, Hex, Framing, Mediator, Cut, Calls, Journal, History, Absent, Close, OutOfMemory, Device}
use Rattle.ipmd_commands.specs.declared.failure.Place.TheVariants as placed
use Rattle.ipmd_commands.specs.Failures.{FailedAt, FailedAtFile, IsFileFault}
use Rattle.ipmd_commands.specs.HexText.{WritesSomeOf}
use Rattle.ipmd_commands.specs.Status.{mediator_fault_of}
use Rattle.ipmd_run_journals.specs.Keeping.{IsSomeFileFault}
use Rattle.ipmd.specs.declared.serve.Service.{Service}

-- ---- before anything is served

-- the plan is the one that settings ask for, with a policy of this text
pub record IsPlanOf (asked : AskedService) (policy : List ℕ) (plan : RunPlan) : Type 0 where
  pub exporters : string_bytes plan.exporters ≡ asked.exporters
  pub admin : string_bytes plan.admin ≡ asked.admin
  pub policy_is : string_bytes plan.policy ≡ policy
  pub connections : plan.connections ≡ asked.connections
  pub target : plan.target ≡ asked.target
  pub workers : plan.workers ≡ asked.workers
  pub turns : plan.turns ≡ asked.turns
  pub endless : plan.endless ≡ asked.endless
  pub idle : plan.idle ≡ asked.idle
  pub reconnect : plan.reconnect ≡ asked.reconnect
  pub hold : plan.hold ≡ asked.hold
  pub drain : plan.drain ≡ asked.drain
  pub limits : plan.limits ≡ asked.limits
  pub deliver : pairs plan.deliver ≡ asked.collectors

-- what these settings ask for, with a policy of this text
pub record IsServiceOf (asked : AskedService) (policy : List ℕ) (service : Service) : Type 0 where
  pub plan_is : IsPlanOf asked policy service.plan
  pub limits_are : service.limits ≡ asked.limits
  pub runs_are : service.runs ≡ asked.runs

-- a text of settings asks for this, with some policy; and a mediator takes its limits
pub record IsAskedFor (service : Service) : Type 0 where
  pub text : List ℕ
  pub asked : AskedService
  pub read : settings_of text ≡ Ok asked
  pub policy : List ℕ
  pub is : IsServiceOf asked policy service
  pub allowed : AreAllowed service.limits
  pub some_run : 1 ≤ service.runs

-- the policy's file, as some settings have it, can't be read, or isn't text; or memory ran out
abbrev pub IsPolicyFault : ProgramFault → Type 0
IsPolicyFault e = (text : List ℕ) × (asked : AskedService) × (settings_of text ≡ Ok asked) × IsFileFault asked.policy e

-- why nothing is served by the settings of this path: their text has this fault, a file can't be read or is no text, or memory ran out
abbrev pub RefusesToPrepare : List ℕ → ProgramFault → Type 0
RefusesToPrepare path (Settings why) = (text : List ℕ) × IsSettingsFault why text
RefusesToPrepare path OutOfMemory = Unit {0}
RefusesToPrepare path (Device which) = FailedAtFile path (Device which) ⊎ IsPolicyFault (Device which)
RefusesToPrepare path (CommandLine e) = ⊥
RefusesToPrepare path (Policy why) = ⊥
RefusesToPrepare path Hex = ⊥
RefusesToPrepare path (Framing why) = ⊥
RefusesToPrepare path (Mediator why) = ⊥
RefusesToPrepare path Cut = ⊥
RefusesToPrepare path (Calls n) = ⊥
RefusesToPrepare path (Journal why) = ⊥
RefusesToPrepare path (History position) = ⊥
RefusesToPrepare path (Absent what) = ⊥
RefusesToPrepare path Close = ⊥

-- ---- a run

-- how a run ended: its history, how many messages it accepted and how many records it handed out, whether its journal was full, and
-- whether it was stopped
pub record Run : Type 0 where
  pub history : List Entry
  pub accepted : ℕ
  pub handed : ℕ
  pub full : Bool
  pub stopped : Bool

abbrev pub run_of : Ended → Run
run_of ended = record {
  history = ended.closed.mediator.history;
  accepted = ended.closed.accepted;
  handed = ended.closed.handed;
  full = ended.closed.full;
  stopped = ended.stopped;
}

-- a plan that these settings ask for, with a policy of this text, was served to its end: in the journal, which began empty, each entry
-- that is to have a receipt has one, and as many messages and records as the receipts have are the run's counts
pub record IsRun (asked : AskedService) (policy : List ℕ) (run : Run) : Type 0 where
  pub plan : RunPlan
  pub plan_is : IsPlanOf asked policy plan
  pub is_served : IsServed plan [] run.history run.accepted run.handed

-- what is said of a run that has ended
abbrev pub run_line : Run → List ℕ
run_line run = codes "accepted " ++ decimal run.accepted ++ codes " handed " ++ decimal run.handed ++ 10 ∷ []

-- ---- runs that follow each other

-- the policy that is in force behind a history that began under this one: that of its last edit
abbrev pub policy_after : List ℕ → List Entry → List ℕ
policy_after policy h = unwrap_or (last_edit h) policy

-- these runs follow each other, the first of them with this policy; the journal of each was full and none was stopped, and another
-- run is to follow with the policy at the end
abbrev pub AreFull : AskedService → List ℕ → List Run → List ℕ → Type 0
AreFull asked policy [] next = next ≡ policy
AreFull asked policy (run ∷ runs) next = IsRun asked policy run × (run.full ≡ true) × (run.stopped ≡ false) × AreFull asked (policy_after policy run.history) runs next

-- runs were made as settings ask for: another one behind each whose journal was full and that was not stopped, but no more than are
-- allowed; and the line of each was written
pub record ServesRuns (held holds : Option (List ℕ)) : Type 0 where
  pub text : List ℕ
  pub asked : AskedService
  pub read : settings_of text ≡ Ok asked
  pub first : List ℕ
  pub before : List Run
  pub policy : List ℕ
  pub are_full : AreFull asked first before policy
  pub last : Run
  pub is_run : IsRun asked policy last
  pub few : length before < asked.runs
  pub ends : (last.full ≡ false) ⊎ ((last.stopped ≡ true) ⊎ (asked.runs ≡ length before + 1))
  pub written : Appends held holds (flat_map run_line (before ++ last ∷ []))

-- ---- where it stops

-- what the program makes of the server's faults; of an address a note says which it is
abbrev pub IsMadeOf : ListenFault → ProgramFault → Type 0
IsMadeOf listen.Bind e = e ≡ Device None
IsMadeOf (listen.Connect place) e = e ≡ Device None
IsMadeOf listen.NoThread e = FailedAt placed.Threads e
IsMadeOf (listen.Mediator why) e = e ≡ mediator_fault_of why
IsMadeOf (listen.Close why) e = e ≡ Close

abbrev pub IsListenFault : ProgramFault → Type 0
IsListenFault e = (fault : ListenFault) × IsMadeOf fault e

-- no run is made: the server has a fault, there are no random numbers, the journals' folder can't be read, or memory ran out
abbrev pub IsBeginFault : ProgramFault → Type 0
IsBeginFault e = IsListenFault e ⊎ (FailedAt placed.RandomNumbers e ⊎ IsSomeFileFault e)

-- a run was made that isn't told whole, or whose journal isn't kept: memory ran out before its line was written, or behind it; or the
-- output failed, and a front of its line was written, or all of it; or the journal's file failed, and the line was written
abbrev pub RefusesToTell : ProgramFault → Run → Option (List ℕ) → Option (List ℕ) → Type 0
RefusesToTell e run held holds =
    ((e ≡ OutOfMemory) × Keeps held holds)
    ⊎ ((FailedAt placed.Output e × WritesSomeOf (run_line run) held holds) ⊎ (IsSomeFileFault e × Appends held holds (run_line run)))

-- behind these runs no other one can be made, and nothing more was written; or a run more was made, and isn't told whole or kept
abbrev pub StopsBehindRuns : ProgramFault → AskedService → List ℕ → Option (List ℕ) → Option (List ℕ) → Type 0
StopsBehindRuns e asked policy held holds =
    (IsBeginFault e × Keeps held holds) ⊎ ((run : Run) × IsRun asked policy run × RefusesToTell e run held holds)

-- runs were made and told, and behind them it stops
pub record StopsServingRuns (e : ProgramFault) (held holds : Option (List ℕ)) : Type 0 where
  pub text : List ℕ
  pub asked : AskedService
  pub read : settings_of text ≡ Ok asked
  pub first : List ℕ
  pub before : List Run
  pub policy : List ℕ
  pub are_full : AreFull asked first before policy
  pub between : Option (List ℕ)
  pub written : Appends held between (flat_map run_line before)
  pub stops : StopsBehindRuns e asked policy between holds

-- nothing was served, and the stream for errors is as it was; or a server was run
abbrev pub FailsToServe : {D : Type 0} → List ℕ → ProgramFault → Option (List ℕ) → Option (List ℕ) → D → D → Type 0
FailsToServe path e held holds before after = ((after ≡ before) × RefusesToPrepare path e × Keeps held holds) ⊎ StopsServingRuns e held holds

-- ---- what no public clause cites

-- another run is to follow one that ended so
abbrev pub is_followed : Run → Bool
is_followed run = run.full && not run.stopped

-- a run was made by the plan and told; where another is to follow, the plan begins with its last policy then
pub record MakesRun (more : Bool) (old new : RunPlan) (held holds : Option (List ℕ)) : Type 0 where
  pub made : Run
  pub is_served : IsServed old [] made.history made.accepted made.handed
  pub told : Appends held holds (run_line made)
  pub more_is : more ≡ is_followed made
  pub renewed : more ≡ true → (asked : AskedService) (policy : List ℕ) → IsPlanOf asked policy old → IsPlanOf asked (policy_after policy made.history) new

-- no run was made, and nothing was written; or a run was made, and isn't told whole or kept
abbrev pub StopsRun : ProgramFault → RunPlan → Option (List ℕ) → Option (List ℕ) → Type 0
StopsRun e plan held holds =
    (IsBeginFault e × Keeps held holds) ⊎ ((made : Run) × IsServed plan [] made.history made.accepted made.handed × RefusesToTell e made held holds)

-- runs were made and told, and another one of this number is to follow by this plan
pub record IsToRun (plan : RunPlan) (runs run : ℕ) (held holds : Option (List ℕ)) : Type 0 where
  pub text : List ℕ
  pub asked : AskedService
  pub read : settings_of text ≡ Ok asked
  pub first : List ℕ
  pub before : List Run
  pub policy : List ℕ
  pub are_full : AreFull asked first before policy
  pub plan_is : IsPlanOf asked policy plan
  pub runs_are : runs ≡ asked.runs
  pub counted : run ≡ length before + 1
  pub allowed : run ≤ runs
  pub written : Appends held holds (flat_map run_line before)
