-- The file of a run that isn't kept.
use Rattle.std.proofs.Common.{◌≡◌, ℕ, List, Result, Ok, Err, inl, inr, ap, subst, ◌∙◌}
use Rattle.std.specs.Result.{IsErr, IsErrAnd, IfErr}
use Rattle.ipmd_commands.specs.declared.fault.Fault.{Fault as ProgramFault}
use Rattle.ipmd_commands.specs.Failures.{IsFileFault}
use Rattle.ipmd_run_journals.specs.Keeping.{IsKeepingFault, part_name}
use Rattle.ipmd_run_journals.specs.Numbering.{file_name}

-- it can't be written
pub unwritten : (path : List ℕ) (number : ℕ) (name part : List ℕ) (e : ProgramFault) → name ≡ file_name path number → part ≡ part_name name → IsFileFault part e → IsKeepingFault path number e
unwritten path number name part e named parted fault = inl (subst (λ p. IsFileFault p e) (parted ∙ ap part_name named) fault)

-- it can't get its name
pub unnamed : (path : List ℕ) (number : ℕ) (name : List ℕ) (e : ProgramFault) → name ≡ file_name path number → IsFileFault name e → IsKeepingFault path number e
unnamed path number name e named fault = inr (subst (λ p. IsFileFault p e) named fault)

pub err_gives : {X E : Type 0} {P Q : E → Type 0} (r : Result X E) → IsErr r × IsErrAnd r P → ((e : E) → P e → Q e) → IfErr r Q
err_gives (Ok x) known f = tt
err_gives (Err e) known f = f e known.1
