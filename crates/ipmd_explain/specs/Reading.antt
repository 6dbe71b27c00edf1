-- What is read of a journal's file, and what was written of it.
use Rattle.std.specs.Prelude.{◌≡◌, ◌⊎◌, ℕ, List, [], ◌∷◌, ◌++◌, Some}
use Rattle.std.specs.Io.KnownBytes.{Appends}
use Rattle.octet_io.specs.Moments.{Reader, Writer}
use Rattle.event_journal.specs.declared.entry.Entry.{Entry}
use Rattle.journal_files.specs.Streaming.{FilePlace}
use Rattle.history_verify.specs.declared.verifier.Verifier.{Verifier}
use Rattle.history_verify.specs.declared.fault.Fault.{Fault as VerifyFault}
use Rattle.history_verify.specs.Answers.{NamesFirst}
use Rattle.history_verify.specs.Legal.{IsLegal}
use Rattle.history_verify.specs.Standing.{IsFed}
use Rattle.ipmd_commands.specs.declared.fault.Absent.{Absent as NotThere}
use Rattle.ipmd_commands.specs.declared.fault.Fault.{Fault as ProgramFault}
use Rattle.ipmd_commands.specs.declared.fault.Fault.TheVariants.{Absent}
use Rattle.ipmd_verify.specs.Faults.{verify_fault_of}
use Rattle.ipmd_verify.specs.Reading.{IsReadTo}
use Rattle.ipmd_explain.specs.declared.question.Question.{Question}
use Rattle.ipmd_explain.specs.declared.explainer.Explainer.{Explainer}
use Rattle.ipmd_explain.specs.Explaining.{absent_of, explanations}
use Rattle.ipmd_explain.specs.Standing.{IsTaken, Tracks}

-- an entry was taken by both
pub record IsTakenBy (v : Verifier) (old new : Explainer) (h : List Entry) (entry : Entry) (text : List ℕ) : Type 0 where
  pub fed : IsFed v (h ++ entry ∷ [])
  pub taken : IsTaken old new h entry text

-- the whole history is refused: it ends in cuts, or it doesn't have what is asked for
pub record EndsBadly (e : ProgramFault) (h : List Entry) : Type 0 where
  pub fault : VerifyFault
  pub is : e ≡ verify_fault_of fault
  pub names : NamesFirst fault h

pub record IsLacking (q : Question) (e : ProgramFault) (h : List Entry) : Type 0 where
  pub what : NotThere
  pub is : e ≡ Absent what
  pub lacks : absent_of q h ≡ Some what

abbrev pub NamesEnd : Question → ProgramFault → List Entry → Type 0
NamesEnd q e h = EndsBadly e h ⊎ (IsLegal h × IsLacking q e h)

-- so far the file was read, both took its entries, and what explains them was written
pub record IsExplainedTo (q : Question) (reader : Reader) (writer : Writer) (place : FilePlace) (v : Verifier) (x : Explainer) : Type 0 where
  pub history : List Entry
  pub reads : IsReadTo reader.given reader.left place history
  pub fed : IsFed v history
  pub question : x.question ≡ q
  pub stands : Tracks x history
  pub written : Appends writer.held writer.holds (explanations q history)
