-- How a run failed, and what the stream for errors has of it.
use Rattle.std.proofs.Common.{◌≡◌, ℕ, List, Bool, Option, inl, inr, ap, subst}
use Rattle.std.specs.Borrow.{Bor}
use Rattle.octet_io.specs.Moments.{writer_of}
use Rattle.ipmd_command_line.specs.CommandLine.{AsksForTask}
use Rattle.ipmd_command_line.specs.declared.task.OfflineOptions.{OfflineOptions}
use Rattle.ipmd_command_line.specs.declared.task.VerifyOptions.{VerifyOptions}
use Rattle.ipmd_command_line.specs.declared.task.ExplainOptions.{ExplainOptions}
use Rattle.ipmd_command_line.specs.declared.task.Task.TheVariants.{Offline, Serve, Verify, Explain}
use Rattle.ipmd_commands.specs.declared.fault.Fault.{Fault as ProgramFault}
use Rattle.ipmd_commands.specs.Runs.{RefusesToFilter}
use Rattle.ipmd_commands.specs.Status.{Blames}
use Rattle.ipmd_verify.specs.Verifying.{RefusesToVerifyFile}
use Rattle.ipmd_explain.specs.Answers.{RefusesToExplainFile}
use Rattle.ipmd.specs.Program.{FailsFor, IsFault}
use Rattle.ipmd.specs.Serving.{FailsToServe}

-- nothing was served, or a server failed
pub unserved : {D : Type 0} (words : List (List ℕ)) (path : Bor (List ℕ)) (e : ProgramFault) (given held holds : Option (List ℕ)) (before after : D)
    → AsksForTask words (Serve path) → FailsToServe path.now e held holds before after → FailsFor words e given held holds before after
unserved words path e given held holds before after asks (inl (same, refuses, keeps)) = inl (same, inr (inr (inr (inr (inl (path, asks, refuses, keeps))))))
unserved words path e given held holds before after asks (inr refuses) = inr (path, asks, refuses)

-- a stream was not filtered
pub unfiltered : {D : Type 0} (words : List (List ℕ)) (options : OfflineOptions) (e : ProgramFault) (given held holds : Option (List ℕ)) (before after : D)
    → after ≡ before → AsksForTask words (Offline options) → RefusesToFilter options e given held holds → FailsFor words e given held holds before after
unfiltered words options e given held holds before after same asks refuses = inl (same, inr (inr (inl (options, asks, refuses))))

-- a journal was not verified
pub unverified : {D : Type 0} (words : List (List ℕ)) (options : VerifyOptions) (e : ProgramFault) (given held holds : Option (List ℕ)) (before after : D)
    → after ≡ before → AsksForTask words (Verify options) → RefusesToVerifyFile options e held holds → FailsFor words e given held holds before after
unverified words options e given held holds before after same asks refuses = inl (same, inr (inr (inr (inr (inr (inl (options, asks, refuses)))))))

-- or not explained
pub unexplained : {D : Type 0} (words : List (List ℕ)) (options : ExplainOptions) (e : ProgramFault) (given held holds : Option (List ℕ)) (before after : D)
    → after ≡ before → AsksForTask words (Explain options) → RefusesToExplainFile options e held holds → FailsFor words e given held holds before after
unexplained words options e given held holds before after same asks refuses = inl (same, inr (inr (inr (inr (inr (inr (inl (options, asks, refuses))))))))

-- it was a fault, and then that was said
pub blamed : {D : Type 0} (holds_of : D → Option (List ℕ)) (words : List (List ℕ)) (e : ProgramFault) (given held holds : Option (List ℕ)) (before after : D) (has_failed : Bool) (tells : Option (List ℕ))
    → FailsFor words e given held holds before after → Blames e has_failed (holds_of after) tells
    → IsFault words e given (writer_of held holds) (writer_of (holds_of before) tells) has_failed
blamed holds_of words e given held holds before after has_failed tells (inl (same, fails)) told =
    inl (fails, subst (λ o. Blames e has_failed o tells) (ap holds_of same) told)
blamed holds_of words e given held holds before after has_failed tells (inr fails) told = inr (fails, (holds_of after, told))
