-- What is found of a journal's file: its history, which is legal, or why it is refused.
use Rattle.std.specs.Prelude.{◌≡◌, ℕ, Bool, List, ◌++◌, Option, Some, None, IfSome, Ok, Err}
use Rattle.event_journal.specs.declared.entry.Entry.{Entry}
use Rattle.journal_files.specs.declared.fault.Fault.{Fault}
use Rattle.journal_files.specs.Faults.{IsFaultOfFile}
use Rattle.journal_files.specs.Reading.{file_of}
use Rattle.history_verify.specs.declared.verified.Verified.{Verified}
use Rattle.history_verify.specs.Legal.{IsFirstBad}
use Rattle.history_verify.specs.Answers.{IsVerified}
use Rattle.ipmd_commands.specs.declared.fault.Fault.{Fault as ProgramFault}
use Rattle.ipmd_commands.specs.declared.fault.Fault.TheVariants.{CommandLine, Settings, Policy, Hex, Framing, Mediator, Cut, Calls, Journal, History, Absent, Close, OutOfMemory, Device}

-- the file says this history; of a file that isn't known nothing is said
abbrev pub Says : Option (List ℕ) → List Entry → Type 0
Says given h = IfSome given (λ octets. file_of octets ≡ Ok h)

-- it says one that goes on so
pub record SaysOn (given : Option (List ℕ)) (h : List Entry) : Type 0 where
  pub more : List Entry
  pub said : Says given (h ++ more)

-- it is none, and this is its first fault
abbrev pub IsNoFile : Option (List ℕ) → Fault → Type 0
IsNoFile given why = IfSome given (λ octets. file_of octets ≡ Err why)

-- it says a legal history, and this is what that discloses and, where that is wanted, what its audit names
pub record IsFoundIn (wanted : Bool) (given : Option (List ℕ)) (v : Verified) : Type 0 where
  pub history : List Entry
  pub said : Says given history
  pub verified : IsVerified wanted history v

-- it says a history, of which the entry at this position is the first that may not stand where it does
pub record IsBadAt (given : Option (List ℕ)) (position : ℕ) : Type 0 where
  pub history : List Entry
  pub said : Says given history
  pub bad : IsFirstBad history position

-- why a file is refused; of a file that failed, whose path isn't known here, and of want of memory, nothing is said
abbrev pub RefusesFile : ProgramFault → Option (List ℕ) → Type 0
RefusesFile (Journal why) given = IsFaultOfFile why × IsNoFile given why
RefusesFile (History position) given = IsBadAt given position
RefusesFile (Absent what) given = ⊥
RefusesFile OutOfMemory given = Unit {0}
RefusesFile (Device None) given = Unit {0}
RefusesFile (Device (Some failure)) given = ⊥
RefusesFile (CommandLine e) given = ⊥
RefusesFile (Settings why) given = ⊥
RefusesFile (Policy why) given = ⊥
RefusesFile Hex given = ⊥
RefusesFile (Framing why) given = ⊥
RefusesFile (Mediator why) given = ⊥
RefusesFile Cut given = ⊥
RefusesFile (Calls n) given = ⊥
RefusesFile Close given = ⊥
