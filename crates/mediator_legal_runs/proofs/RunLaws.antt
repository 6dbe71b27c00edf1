-- The history of every run is legal, by induction from its front, and no entry of a legal history is the first bad one.
use Rattle.std.proofs.Common.{◌≡◌, ℕ, List, [], ◌∷◌, ◌++◌, refl, sym, ap, subst, append_assoc, append-nil}
use Rattle.std.specs.Prelude.{string_bytes}
use Rattle.event_journal.specs.declared.entry.Entry.{Entry}
use Rattle.event_journal.specs.declared.entry.Entry.TheVariants.{Open, Close, Message, Edit, Subscribe, Unsubscribe, Advance}
use Rattle.mediator_calls.specs.declared.call.Call.{Call}
use Rattle.mediator_calls.specs.declared.call.Call.TheVariants as call
use Rattle.mediator_calls.specs.declared.call.Reply.{Reply}
use Rattle.mediator_calls.specs.declared.call.Reply.TheVariants as reply
use Rattle.mediator_state.specs.declared.receipt.Receipt.{Receipt}
use Rattle.mediator_calls.specs.Mediation.{Mediation, started, waiting_at, stream_limits}
use Rattle.mediator_calls.specs.Calls.{GoesOn, with_cuts, Receives}
use Rattle.mediator_core.specs.Runs.{Answers, Runs}
use Rattle.history_verify.specs.declared.fault.Fault.{Fault as VerifyFault}
use Rattle.history_verify.specs.declared.fault.Fault.TheVariants.{BadHistory, OutOfMemory}
use Rattle.history_verify.specs.Legal.{IsAccepted, IsNextMessage, IsLegalAt, AreLegal, IsLegal, IsFirstBad}
use Rattle.history_verify.specs.Answers.{NamesFirst}
use Rattle.mediator_legal_runs.specs.Legality.{RunsAreLegal, JournalsAreLegal, LegalIsNeverBad, RunsAreNeverBad}
use Rattle.mediator_legal_runs.proofs.BearingOut.{IsKept, kept_first, kept_more, kept_with_cuts}

-- ---- a call and its reply

-- one entry more
goes_on_kept : (old new : Mediation) (e : Entry) → GoesOn old (e ∷ []) new → IsKept old.history → IsAccepted old.history e → IsKept new.history
goes_on_kept old new e on so is = subst IsKept (sym on.history) (kept_more old.history e so is)

-- one entry more, and the cuts that it makes
cuts_kept : (old new : Mediation) (e : Entry) → GoesOn old (with_cuts old e) new → IsKept old.history → IsAccepted old.history e → IsKept new.history
cuts_kept old new e on so is = subst IsKept (sym on.history) (kept_with_cuts (stream_limits old.limits) old.history e (waiting_at old) so is)

same_kept : (old new : Mediation) → new.history ≡ old.history → IsKept old.history → IsKept new.history
same_kept old new same so = subst IsKept (sym same) so

refused_kept : (old new : Mediation) → new ≡ old → IsKept old.history → IsKept new.history
refused_kept old new same so = same_kept old new (ap (λ (m : Mediation). m.history) same) so

accepted_message : (old new : Mediation) (session number : ℕ) (octets : List ℕ) (r : Receipt) → Receives old session number octets r new → IsNextMessage old.history session number octets
accepted_message old new session number octets r is = record { opened = is.next.opened; turn = is.next.turn; meaning = is.meaning; means = is.means }

pub kept_after : (old : Mediation) (c : Call) (r : Reply) (new : Mediation) → Answers old c r new → IsKept old.history → IsKept new.history
kept_after old call.Open (reply.Opened session) new is so = goes_on_kept old new (Open session.0) is.goes_on so is.number
kept_after old (call.Close session) reply.Closed new is so = goes_on_kept old new (Close session.0) is.goes_on so is.opened
kept_after old (call.Receive session number message) (reply.Received receipt) new is so =
    cuts_kept old new (Message session.0 number message) is.goes_on so (accepted_message old new session.0 number message receipt is)
kept_after old (call.Edit text) (reply.Edited revision) new is so =
    goes_on_kept old new (Edit (string_bytes text)) is.goes_on so (record { policy = is.policy; spelled = is.spelled })
kept_after old (call.Subscribe name) (reply.Subscribed sub) new is so =
    goes_on_kept old new (Subscribe sub.0 (string_bytes name)) is.goes_on so (record { number = is.number; named = is.named; free = is.free })
kept_after old (call.Unsubscribe sub) reply.Unsubscribed new is so = goes_on_kept old new (Unsubscribe sub.0) is.goes_on so is.live
kept_after old (call.Advance t) reply.Advanced new is so = cuts_kept old new (Advance t) is.goes_on so is.ahead
kept_after old (call.Pull sub now target) (reply.Pulled answer) new is so = same_kept old new is.history so
kept_after old (call.Status sub) (reply.Stands status) new is so = refused_kept old new is.1 so
kept_after old (call.DrainAudit most) (reply.Drained out) new is so = same_kept old new is.history so
kept_after old call.Open (reply.Refused why) new is so = refused_kept old new is.1 so
kept_after old (call.Close session) (reply.Refused why) new is so = refused_kept old new is.1 so
kept_after old (call.Receive session number message) (reply.Refused why) new is so = refused_kept old new is.1 so
kept_after old (call.Edit text) (reply.Refused why) new is so = refused_kept old new is.1 so
kept_after old (call.Subscribe name) (reply.Refused why) new is so = refused_kept old new is.1 so
kept_after old (call.Unsubscribe sub) (reply.Refused why) new is so = refused_kept old new is.1 so
kept_after old (call.Advance t) (reply.Refused why) new is so = refused_kept old new is.1 so
kept_after old (call.Pull sub now target) (reply.Refused why) new is so = refused_kept old new is.1 so
kept_after old (call.Status sub) (reply.Refused why) new is so = refused_kept old new is.1 so
kept_after old (call.DrainAudit most) (reply.Refused why) new is so = refused_kept old new is.1 so
kept_after old _ _ new is so = absurd is

-- ---- calls in a row

pub kept_at_end : (calls : List Call) (replies : List Reply) (old new : Mediation) → Runs old calls replies new → IsKept old.history → IsKept new.history
kept_at_end [] [] old new run so = refused_kept old new run so
kept_at_end [] (r ∷ replies) old new run so = absurd run
kept_at_end (c ∷ calls) [] old new run so = absurd run
kept_at_end (c ∷ calls) (r ∷ replies) old new run so = kept_at_end calls replies run.0 new run.2 (kept_after old c r run.0 run.1 so)

pub runs_are_legal : RunsAreLegal
runs_are_legal limits calls replies end run =
    let kept : IsKept end.history = kept_at_end calls replies (started limits) end run kept_first in
    kept.settled.legal []

pub journals_are_legal : JournalsAreLegal
journals_are_legal limits calls replies end finished run same = subst IsLegal (sym same) (runs_are_legal limits calls replies end run)

-- ---- no entry is the first bad one

-- each of entries that are legal is so where it stands
legal_there : (before xs : List Entry) (e : Entry) (ys after : List Entry) → AreLegal before (xs ++ e ∷ ys) after → IsLegalAt (before ++ xs) e (ys ++ after)
legal_there before [] e ys after all = subst (λ (b : List Entry). IsLegalAt b e (ys ++ after)) (sym (append-nil before)) all.0
legal_there before (x ∷ xs) e ys after all = subst (λ (b : List Entry). IsLegalAt b e (ys ++ after)) (append_assoc before (x ∷ []) xs) (legal_there (before ++ x ∷ []) xs e ys after all.1)

pub none_bad : (h : List Entry) (position : ℕ) → IsLegal h → IsFirstBad h position → ⊥
none_bad h position legal is =
    let at : IsLegalAt is.before is.entry (is.after ++ []) = legal_there [] is.before is.entry is.after [] (subst IsLegal is.history_is legal) in
    is.bad (subst (λ (t : List Entry). IsLegalAt is.before is.entry t) (append-nil is.after) at)

-- so a verifier isn't told of one
pub never_told : (h : List Entry) (why : VerifyFault) (position : ℕ) → IsLegal h → NamesFirst why h → why ≡ BadHistory position → ⊥
never_told h why position legal names is = none_bad h position legal (subst (λ (e : VerifyFault). NamesFirst e h) is names)

pub never_bad : LegalIsNeverBad
never_bad h (BadHistory position) legal is = absurd (none_bad h position legal is)
never_bad h OutOfMemory legal is = refl

pub runs_never_bad : RunsAreNeverBad
runs_never_bad limits calls replies end why run is = never_bad end.history why (runs_are_legal limits calls replies end run) is
