-- What `ipmd explain` answers of a journal's file.
use Rattle.std.specs.Prelude.{◌≡◌, ◌⊎◌, ℕ, List, Option, Some, None}
use Rattle.std.specs.Io.KnownBytes.{Appends, Keeps}
use Rattle.event_journal.specs.declared.entry.Entry.{Entry}
use Rattle.history_verify.specs.Legal.{IsLegal}
use Rattle.ipmd_command_line.specs.declared.task.ExplainOptions.{ExplainOptions}
use Rattle.ipmd_commands.specs.declared.fault.Absent.{Absent as NotThere}
use Rattle.ipmd_commands.specs.declared.fault.Fault.{Fault as ProgramFault}
use Rattle.ipmd_commands.specs.declared.fault.Fault.TheVariants.{Absent}
use Rattle.ipmd_commands.specs.declared.failure.Place.TheVariants.{Output}
use Rattle.ipmd_commands.specs.Failures.{FailedAt, NamesFile}
use Rattle.ipmd_commands.specs.HexText.{WritesSomeOf}
use Rattle.ipmd_verify.specs.Found.{Says, RefusesFile}
use Rattle.ipmd_verify.specs.Reading.{IsRest}
use Rattle.ipmd_explain.specs.declared.question.Question.{Question}
use Rattle.ipmd_explain.specs.Explaining.{explanations, absent_of}

-- what the options ask
abbrev pub question_of : ExplainOptions → Question
question_of options = record { sub = options.sub; position = options.position; index = options.index }

-- the file says a legal history, which has what is asked for, and all that explains it was written
pub record Explains (q : Question) (given held holds : Option (List ℕ)) : Type 0 where
  pub history : List Entry
  pub said : Says given history
  pub legal : IsLegal history
  pub there : absent_of q history ≡ None
  pub written : Appends held holds (explanations q history)

-- the file says a legal history, which doesn't have this
pub record LacksAsked (q : Question) (what : NotThere) (given : Option (List ℕ)) : Type 0 where
  pub history : List Entry
  pub said : Says given history
  pub legal : IsLegal history
  pub lacks : absent_of q history ≡ Some what

-- why no explanation is given: the file is refused, or it doesn't have what is asked for, or the output failed
abbrev pub RefusesQuestion : Question → ProgramFault → Option (List ℕ) → Type 0
RefusesQuestion q e given = RefusesFile e given ⊎ (((what : NotThere) × (e ≡ Absent what) × LacksAsked q what given) ⊎ FailedAt Output e)

-- of entries with which the file begins a front of what explains them was written, or all of it
pub record BeginsToExplain (q : Question) (given held holds : Option (List ℕ)) : Type 0 where
  pub history : List Entry
  pub now : Option (List ℕ)
  pub left : ℕ
  pub rest : IsRest given now history left
  pub written : WritesSomeOf (explanations q history) held holds

abbrev pub StopsExplaining : Question → ProgramFault → Option (List ℕ) → Option (List ℕ) → Option (List ℕ) → Type 0
StopsExplaining q e given held holds = RefusesQuestion q e given × (Keeps held holds ⊎ BeginsToExplain q given held holds)

-- the same of the file of this path
abbrev pub RefusesToExplain : Question → List ℕ → ProgramFault → Option (List ℕ) → Option (List ℕ) → Option (List ℕ) → Type 0
RefusesToExplain q path e given held holds = (fault : ProgramFault) × NamesFile path fault e × StopsExplaining q fault given held holds

-- what a file holds isn't told here
abbrev pub ExplainsFile : Question → Option (List ℕ) → Option (List ℕ) → Type 0
ExplainsFile q held holds = (given : Option (List ℕ)) × Explains q given held holds

-- as the file is verified nothing is written
abbrev pub RefusesToExplainFile : ExplainOptions → ProgramFault → Option (List ℕ) → Option (List ℕ) → Type 0
RefusesToExplainFile options e held holds = (given : Option (List ℕ)) × RefusesToExplain (question_of options) options.journal.now e given held holds
