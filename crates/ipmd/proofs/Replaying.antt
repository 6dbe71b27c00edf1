-- A list of calls that no mediator is made for, or that isn't answered.
use Rattle.std.proofs.Common.{◌≡◌, ℕ, List, [], Option, Some, Result, Ok, Err, inl, inr, refl, subst, sym}
use Rattle.std.specs.Prelude.{IfSome, IfErr, OnOk}
use Rattle.std.specs.Io.KnownBytes.{Appends}
use Rattle.std.specs.Borrow.{Bor}
use Rattle.std.proofs.KnownBytes.{Keeps-refl}
use Rattle.ipmd_command_line.specs.declared.task.ReplayOptions.{ReplayOptions}
use Rattle.ipmd_commands.specs.declared.fault.Fault.{Fault as ProgramFault}
use Rattle.ipmd_commands.specs.declared.failure.Place.TheVariants.{File, Output}
use Rattle.ipmd_commands.specs.Failures.{FailedAt, FailedAtFile, IsFileFault, failed_at}
use Rattle.mediator_state.specs.declared.fault.Fault.{Fault}
use Rattle.mediator_state.specs.declared.fault.Fault.TheVariants as fault
use Rattle.mediator_calls.specs.Limited.{RefusesLimits}
use Rattle.replay_text.specs.declared.call_list.CallList.{CallList}
use Rattle.replay_text.specs.Lists.{asked_calls, calls_of_text}
use Rattle.replay_text.specs.Answers.{answers_text}
use Rattle.mediator_core.specs.declared.transcript.Transcript.{Transcript}
use Rattle.ipmd_commands.specs.Status.{mediator_fault_of}
use Rattle.ipmd_commands.specs.HexText.{WritesSomeOf}
use Rattle.ipmd.specs.Replays.{BeginsToAnswer, RefusesText, RefusesToReplay, Replays, RunsText}

-- its limits are at fault, or memory ran out
pub no_run : (text : List ℕ) (list : CallList) (why : Fault) → calls_of_text text ≡ Ok (asked_calls list) → RefusesLimits why list.limits → RefusesText (mediator_fault_of why) text
no_run text list fault.BadLimits read refused = record { list = list; read = read; bad = refused }
no_run text list fault.OutOfMemory read refused = tt
no_run text list _ read refused = absurd refused

-- the file of the calls can't be read
pub no_calls : (options : ReplayOptions) (e : ProgramFault) (held : Option (List ℕ)) → IsFileFault options.calls.now e → RefusesToReplay options e held held
no_calls options e held (inl is) = subst (λ x. RefusesToReplay options x held held) (sym is) (([], tt), Keeps-refl held)
no_calls options e held (inr (text, same, (why, is))) = subst (λ x. RefusesToReplay options x held held) (sym is) (inl (inl (text, same, (why, refl)), Keeps-refl held))

-- that of the journal can't be kept
pub no_journal : (options : ReplayOptions) (path : Bor (List ℕ)) (e : ProgramFault) (held : Option (List ℕ)) → options.journal ≡ Some path → IsFileFault path.now e → RefusesToReplay options e held held
no_journal options path e held asked_calls (inl is) = subst (λ x. RefusesToReplay options x held held) (sym is) (([], tt), Keeps-refl held)
no_journal options path e held asked_calls (inr (text, same, (why, is))) = subst (λ x. RefusesToReplay options x held held) (sym is)
    (inl (inr (subst (λ journal. IfSome journal (λ p. FailedAtFile p.now (failed_at (File text) why))) (sym asked_calls) (text, same, (why, refl))), Keeps-refl held))

-- the output failed
pub no_answer : (options : ReplayOptions) (e : ProgramFault) (held holds : Option (List ℕ)) → FailedAt Output e → BeginsToAnswer held holds → RefusesToReplay options e held holds
no_answer options e held holds (why, is) begins = subst (λ x. RefusesToReplay options x held holds) (sym is) (inr ((why, refl), begins))

-- the answers were written
pub answered : {X : Type 0} (r : Result X ProgramFault) (held holds : Option (List ℕ)) (text written : List ℕ) (t : Transcript) → RunsText text t → written ≡ answers_text t.replies.items → OnOk r (Appends held holds written) → OnOk r (Replays held holds)
answered (Ok x) held holds text written t runs is appends = record { text = text; transcript = t; runs = runs; written = subst (λ w. Appends held holds w) is appends }
answered (Err e) held holds text written t runs is appends = tt

-- or the output failed behind a front of them
pub unanswered : {X : Type 0} (r : Result X ProgramFault) (options : ReplayOptions) (held holds : Option (List ℕ)) (text written : List ℕ) (t : Transcript) → RunsText text t → written ≡ answers_text t.replies.items → IfErr r (λ e. FailedAt Output e × WritesSomeOf written held holds) → IfErr r (λ e. RefusesToReplay options e held holds)
unanswered (Ok x) options held holds text written t runs is fails = tt
unanswered (Err e) options held holds text written t runs is fails =
    no_answer options e held holds fails.0 (record { text = text; transcript = t; runs = runs; written = subst (λ w. WritesSomeOf w held holds) is fails.1 })
