-- That the histories of runs are legal, and what verifying them answers.
use Rattle.std.specs.Prelude.{◌≡◌, List}
use Rattle.event_journal.specs.declared.entry.Entry.{Entry}
use Rattle.mediator_calls.specs.declared.limits.Limits.{Limits}
use Rattle.mediator_calls.specs.declared.call.Call.{Call}
use Rattle.mediator_calls.specs.declared.call.Reply.{Reply}
use Rattle.mediator_calls.specs.declared.finished.Finished.{Finished}
use Rattle.mediator_calls.specs.Mediation.{Mediation, started}
use Rattle.mediator_core.specs.Runs.{Runs}
use Rattle.history_verify.specs.declared.fault.Fault.{Fault as VerifyFault}
use Rattle.history_verify.specs.declared.fault.Fault.TheVariants.{OutOfMemory}
use Rattle.history_verify.specs.Legal.{IsLegal}
use Rattle.history_verify.specs.Answers.{NamesFirst}

-- after any calls on a new mediator its history is legal
abbrev pub RunsAreLegal : Type 0
RunsAreLegal = (limits : Limits) (calls : List Call) (replies : List Reply) (end : Mediation) → Runs (started limits) calls replies end → IsLegal end.history

-- so are the entries of the journal that stays when the run is ended, which are that history
abbrev pub JournalsAreLegal : Type 0
JournalsAreLegal = (limits : Limits) (calls : List Call) (replies : List Reply) (end : Mediation) (finished : Finished) → Runs (started limits) calls replies end → finished.journal.entries ≡ end.history
    → IsLegal finished.journal.entries

-- a fault that is told of a legal history is want of memory
abbrev pub LegalIsNeverBad : Type 0
LegalIsNeverBad = (h : List Entry) (why : VerifyFault) → IsLegal h → NamesFirst why h → why ≡ OutOfMemory

-- so it is of the history of each run
abbrev pub RunsAreNeverBad : Type 0
RunsAreNeverBad = (limits : Limits) (calls : List Call) (replies : List Reply) (end : Mediation) (why : VerifyFault) → Runs (started limits) calls replies end → NamesFirst why end.history → why ≡ OutOfMemory
