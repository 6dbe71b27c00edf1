use Rattle.std.specs.Prelude.{◌≢◌, [], List, take}
use Rattle.std.specs.List.{AllByRecursion}
use Rattle.event_journal.specs.declared.entry.Entry.{Entry}
use Rattle.event_journal.specs.declared.entry.Entry.TheVariants.{Advance}
use Rattle.mediator_history.specs.Disclosed.{given_at}
use Rattle.history_verify.specs.Standing.{StandsOver}
use Rattle.history_verify.proofs.replay.Replay.unborne_at.Given as goal

-- the first ones are borne out
abbrev pub invariant-waiting : goal.invariant-waiting
invariant-waiting l = (settled h : List Entry) → StandsOver l.self settled h → AllByRecursion (λ s. given_at s settled (Advance l.t) ≢ []) (take l.place l.self.waiting.items)
