-- A file that is refused, by its name.
use Rattle.std.proofs.Common.{◌≡◌, ◌∙◌, ℕ, List, [], Bool, true, false, not, Option, None, inl, ap, subst}
use Rattle.std.specs.Prelude.{Result, Ok, Err}
use Rattle.std.specs.Result.{IsErr, IsErrAnd, IfErr}
use Rattle.std.specs.Io.KnownBytes.{Keeps}
use Rattle.ipmd_command_line.specs.declared.task.VerifyOptions.{VerifyOptions}
use Rattle.ipmd_commands.specs.declared.fault.Fault.{Fault as ProgramFault}
use Rattle.ipmd_commands.specs.declared.fault.Fault.TheVariants.{Device, OutOfMemory}
use Rattle.ipmd_commands.specs.Failures.{IsFileFault, NamesFile}
use Rattle.ipmd_commands.specs.HexText.{WritesSomeOf}
use Rattle.event_journal.specs.declared.entry.Entry.{Entry}
use Rattle.history_verify.specs.declared.verified.Verified.{Verified}
use Rattle.history_verify.specs.Answers.{IsVerified}
use Rattle.history_verify.specs.Counts.{counts_of}
use Rattle.ipmd_verify.specs.Found.{IsFoundIn, RefusesFile}
use Rattle.ipmd_verify.specs.Verifying.{BeginsToTell, RefusesToVerify, RefusesToVerifyFile, verified_text, told_of}

-- an error that is handed on
pub err_gives : {X E : Type 0} {P Q : E → Type 0} (r : Result X E) → IsErr r × IsErrAnd r P → ((e : E) → P e → Q e) → IfErr r Q
err_gives (Ok x) known f = tt
err_gives (Err e) known f = f e known.1

-- it can't be opened
pub unopened : (options : VerifyOptions) (e : ProgramFault) (held holds : Option (List ℕ)) → IsFileFault options.journal.now e → Keeps held holds → RefusesToVerifyFile options e held holds
unopened options e held holds fault kept = (None, inl ((Device None, tt, fault), kept))

-- it is refused
pub refused : (quiet : Bool) (path : List ℕ) (fault e : ProgramFault) (given held holds : Option (List ℕ)) → RefusesFile fault given → NamesFile path fault e → Keeps held holds → RefusesToVerify quiet path e given held holds
refused quiet path fault e given held holds refuses named kept = inl ((fault, refuses, named), kept)

-- there is no memory for what it discloses
pub no_room : (quiet : Bool) (path : List ℕ) (e : ProgramFault) (given held holds : Option (List ℕ)) → e ≡ OutOfMemory → Keeps held holds → RefusesToVerify quiet path e given held holds
no_room quiet path e given held holds is kept = inl ((OutOfMemory, tt, is), kept)

-- what was found is what is told: without the audit where that isn't wanted
found_is_told : (quiet : Bool) (h : List Entry) (v : Verified) → IsVerified (not quiet) h v → verified_text quiet v.subs.items v.audit.items ≡ told_of quiet h
found_is_told true h v is = ap (λ counts. verified_text true counts []) is.subs
found_is_told false h v is = ap (λ counts. verified_text false counts v.audit.items) is.subs ∙ ap (λ audit. verified_text false (counts_of h) audit) is.audit

-- a front of it was written
pub begun : (quiet : Bool) (given held holds : Option (List ℕ)) (v : Verified) (text : List ℕ) → IsFoundIn (not quiet) given v → text ≡ verified_text quiet v.subs.items v.audit.items
    → WritesSomeOf text held holds → BeginsToTell quiet given held holds
begun quiet given held holds v text found is written = record {
  history = found.history;
  said = found.said;
  legal = found.verified.legal;
  written = subst (λ t. WritesSomeOf t held holds) (is ∙ found_is_told quiet found.history v found.verified) written;
}
