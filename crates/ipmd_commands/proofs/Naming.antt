-- Which device a fault names.
use Rattle.std.proofs.Common.{◌≡◌, ◌⊎◌, ℕ, List, string_bytes, Option, Some, None, inl, inr, sym, subst}
use Rattle.std.specs.Prelude.{String}
use Rattle.std.specs.Borrow.{Bor}
use Rattle.std.specs.declared.alloc.Global.{Global}
use Rattle.octet_io.specs.Moments.{writer_of}
use Rattle.ipmd_command_line.specs.declared.task.OfflineOptions.{OfflineOptions}
use Rattle.ipmd_commands.specs.declared.failure.Place.TheVariants.{File, Output}
use Rattle.ipmd_commands.specs.declared.fault.Fault.{Fault}
use Rattle.ipmd_commands.specs.declared.fault.Fault.TheVariants.{OutOfMemory}
use Rattle.ipmd_commands.specs.Failures.{FailedAt, IsFileFault}
use Rattle.ipmd_commands.specs.Runs.{AskedJob, IsWriteFault, RefusesByAudit, RefusesInput, RefusesToFilter, RefusesWithAudit}

-- an error at a file
pub at_a_file : (path : List ℕ) (text : String Global) (e : Fault) → string_bytes text ≡ path → (e ≡ OutOfMemory) ⊎ FailedAt (File text) e → IsFileFault path e
at_a_file path text e same (inl is) = inl is
at_a_file path text e same (inr failed) = inr (text, same, failed)

-- lines failed at the output
pub not_written : (e : Fault) → (e ≡ OutOfMemory) ⊎ FailedAt Output e → (e ≡ OutOfMemory) ⊎ IsWriteFault e
not_written e (inl is) = inl is
not_written e (inr failed) = inr (inl failed)

-- with an audit in a file
pub refuses_audited : (options : OfflineOptions) (path : Bor (List ℕ)) (asked : AskedJob options) (e : Fault) (given held holds : Option (List ℕ)) → options.audit ≡ Some path
    → RefusesWithAudit path.now e options.hex asked.job given (writer_of held holds) → RefusesToFilter options e given held holds
refuses_audited options path asked e given held holds is refuses = inr (asked, subst (λ audit. RefusesByAudit audit e options.hex asked.job given (writer_of held holds)) (sym is) refuses)

-- with none
pub refuses_unaudited : (options : OfflineOptions) (asked : AskedJob options) (e : Fault) (given held holds audit_held audit_holds : Option (List ℕ)) → options.audit ≡ None
    → RefusesInput e options.hex asked.job given (writer_of held holds) (writer_of audit_held audit_holds) → RefusesToFilter options e given held holds
refuses_unaudited options asked e given held holds audit_held audit_holds is refuses =
    inr (asked, subst (λ audit. RefusesByAudit audit e options.hex asked.job given (writer_of held holds)) (sym is) (writer_of audit_held audit_holds, refuses))
