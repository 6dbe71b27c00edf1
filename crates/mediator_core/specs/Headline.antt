-- What is promised of a run, said of its calls and its transcript.
use Rattle.std.specs.Prelude.{◌≡◌, ℕ, true, List, ◌++◌, filter}
use Rattle.subscriber_stream.specs.Calls.{Pull as Asked, octets_got}
use Rattle.stream_meaning.specs.Served.{AreInRange, pulls}
use Rattle.stream_meaning.specs.Means.{Means}
use Rattle.mediator_history.specs.Subscriptions.{is_live}
use Rattle.mediator_history.specs.Disclosed.{disclosed}
use Rattle.mediator_history.specs.Auditing.{audit_list}
use Rattle.mediator_calls.specs.declared.call.Call.{Call}
use Rattle.mediator_calls.specs.declared.call.Reply.{Reply}
use Rattle.mediator_calls.specs.declared.limits.Limits.{Limits}
use Rattle.mediator_calls.specs.Mediation.{Mediation, started, place_at, noted_at}
use Rattle.mediator_core.specs.declared.transcript.Transcript.{Transcript}
use Rattle.mediator_core.specs.Runs.{Runs, accepted_entries, is_of_call, answers_to, handed_to, GiveUntilNone, MeanFront, drained_by, Ask}

-- each reply is that of its call, one after another from a mediator before any call, and the mediator is as the last call left it
abbrev pub IsRunOf : Limits → List Call → Transcript → Type 0
IsRunOf limits calls t = Runs (started limits) calls t.replies.items t.mediator

-- the entries of the history, cuts aside, are those of the accepted calls, in order
abbrev pub HistoryIsTheCalls : List Call → Transcript → Type 0
HistoryIsTheCalls calls t = filter is_of_call t.mediator.history ≡ accepted_entries calls t.replies.items

-- what a live subscription was handed, with the messages of further pulls up to None, means exactly what is disclosed to it
abbrev pub HandedIsDisclosed : List Call → Transcript → Type 0
HandedIsDisclosed calls t = (sub : ℕ) (turns : List (ℕ × ℕ)) (more : List (List ℕ)) → is_live sub t.mediator.history ≡ true → AreInRange (pulls turns)
    → GiveUntilNone (disclosed sub t.mediator.history) (place_at t.mediator sub) turns more
    → Means (handed_to sub calls t.replies.items ++ more) (disclosed sub t.mediator.history)

-- what any subscription was handed, also one that ended, means records with which what is disclosed to it begins
abbrev pub HandedIsFront : List Call → Transcript → Type 0
HandedIsFront calls t = (sub : ℕ) → MeanFront (handed_to sub calls t.replies.items) (disclosed sub t.mediator.history)

-- what was drained, with what waits, is the audit list
abbrev pub DrainedIsAudited : List Call → Transcript → Type 0
DrainedIsAudited calls t = drained_by calls t.replies.items ++ noted_at t.mediator ≡ audit_list t.mediator.history

-- what a subscription's pulls answered is built from these pulls, each with all that was disclosed to it by then, and from nothing else
pub record IsBuiltFromDisclosed (sub : ℕ) (old : Mediation) (calls : List Call) (replies : List Reply) (new : Mediation) : Type 0 where
  pub asked : List Asked
  pub ask : Ask sub old calls replies new asked
  pub answers : answers_to sub calls replies ≡ octets_got asked

-- so it is for each subscription
abbrev pub AnsweredIsFromDisclosed : Limits → List Call → Transcript → Type 0
AnsweredIsFromDisclosed limits calls t = (sub : ℕ) → IsBuiltFromDisclosed sub (started limits) calls t.replies.items t.mediator
