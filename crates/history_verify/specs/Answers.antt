-- What a verifier answers of a history.
use Rattle.std.specs.Prelude.{◌≡◌, Bool, List, [], ◌++◌, if◌then◌else◌}
use Rattle.event_journal.specs.declared.entry.Entry.{Entry}
use Rattle.mediator_history.specs.Auditing.{audit_list}
use Rattle.history_verify.specs.declared.verified.Verified.{Verified}
use Rattle.history_verify.specs.declared.fault.Fault.{Fault}
use Rattle.history_verify.specs.declared.fault.Fault.TheVariants.{BadHistory, OutOfMemory}
use Rattle.history_verify.specs.Legal.{IsLegal, IsFirstBad}
use Rattle.history_verify.specs.Counts.{counts_of}

-- the history is legal, and this is what it disclosed and, where that is wanted, what its audit names
pub record IsVerified (wanted : Bool) (h : List Entry) (v : Verified) : Type 0 where
  pub legal : IsLegal h
  pub subs : v.subs.items ≡ counts_of h
  pub audit : v.audit.items ≡ (if wanted then audit_list h else [])

-- the fault names the first entry of the history that is not legal where it stands; of want of memory nothing is said
abbrev pub NamesFirst : Fault → List Entry → Type 0
NamesFirst (BadHistory position) h = IsFirstBad h position
NamesFirst OutOfMemory h = Unit {0}

-- so it is, whatever comes behind the history
abbrev pub NamesFirstOfAny : Fault → List Entry → Type 0
NamesFirstOfAny (BadHistory position) h = (more : List Entry) → IsFirstBad (h ++ more) position
NamesFirstOfAny OutOfMemory h = Unit {0}
