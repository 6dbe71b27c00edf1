-- What `ipmd verify` writes of a journal's file.
use Rattle.std.specs.Prelude.{◌≡◌, ◌⊎◌, ℕ, Bool, List, [], ◌∷◌, ◌++◌, codes, Option, if◌then◌else◌}
use Rattle.std.specs.Fmt.{decimal}
use Rattle.std.specs.List.{flat_map}
use Rattle.std.specs.Io.KnownBytes.{Appends, Keeps}
use Rattle.disclosure_audit.specs.declared.entry.AuditEntry.{AuditEntry}
use Rattle.disclosure_audit.specs.Lines.{audit_line}
use Rattle.event_journal.specs.declared.entry.Entry.{Entry}
use Rattle.mediator_history.specs.Auditing.{audit_list}
use Rattle.history_verify.specs.declared.count.SubscriptionCount.{SubscriptionCount}
use Rattle.history_verify.specs.Counts.{counts_of}
use Rattle.history_verify.specs.Legal.{IsLegal}
use Rattle.ipmd_command_line.specs.declared.task.VerifyOptions.{VerifyOptions}
use Rattle.ipmd_commands.specs.declared.fault.Fault.{Fault as ProgramFault}
use Rattle.ipmd_commands.specs.declared.failure.Place.TheVariants.{Output}
use Rattle.ipmd_commands.specs.Failures.{FailedAt, NamesFile}
use Rattle.ipmd_commands.specs.HexText.{WritesSomeOf}
use Rattle.ipmd_verify.specs.Found.{Says, RefusesFile}

-- ---- the text

-- how much was disclosed to a subscription
abbrev pub count_line : SubscriptionCount → List ℕ
count_line count = codes "sub " ++ decimal count.sub ++ codes " " ++ count.name ++ codes " disclosed " ++ decimal count.disclosed ++ 10 ∷ []

abbrev pub count_lines : List SubscriptionCount → List ℕ
count_lines counts = flat_map count_line counts

abbrev pub audit_lines : List AuditEntry → List ℕ
audit_lines entries = flat_map audit_line entries

-- a line for each subscription, and unless it is to be quiet the audit's lines
abbrev pub verified_text : Bool → List SubscriptionCount → List AuditEntry → List ℕ
verified_text quiet counts entries = count_lines counts ++ (if quiet then [] else audit_lines entries)

-- what a history discloses, and what its audit names
abbrev pub told_of : Bool → List Entry → List ℕ
told_of quiet h = verified_text quiet (counts_of h) (audit_list h)

-- ---- what is written

-- the file says a legal history, and all of its text was written
pub record Verifies (quiet : Bool) (given held holds : Option (List ℕ)) : Type 0 where
  pub history : List Entry
  pub said : Says given history
  pub legal : IsLegal history
  pub written : Appends held holds (told_of quiet history)

-- the same, and a front of its text was written, or all of it
pub record BeginsToTell (quiet : Bool) (given held holds : Option (List ℕ)) : Type 0 where
  pub history : List Entry
  pub said : Says given history
  pub legal : IsLegal history
  pub written : WritesSomeOf (told_of quiet history) held holds

-- the file of this path is refused, and nothing was written; or the output failed
abbrev pub RefusesToVerify : Bool → List ℕ → ProgramFault → Option (List ℕ) → Option (List ℕ) → Option (List ℕ) → Type 0
RefusesToVerify quiet path e given held holds =
    (((fault : ProgramFault) × RefusesFile fault given × NamesFile path fault e) × Keeps held holds) ⊎ (FailedAt Output e × BeginsToTell quiet given held holds)

-- what a file holds isn't told here
abbrev pub VerifiesFile : Bool → Option (List ℕ) → Option (List ℕ) → Type 0
VerifiesFile quiet held holds = (given : Option (List ℕ)) × Verifies quiet given held holds

abbrev pub RefusesToVerifyFile : VerifyOptions → ProgramFault → Option (List ℕ) → Option (List ℕ) → Type 0
RefusesToVerifyFile options e held holds = (given : Option (List ℕ)) × RefusesToVerify options.quiet options.journal.now e given held holds
