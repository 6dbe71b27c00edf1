use Rattle.std.proofs.Common.{◌≡◌, ℕ, List, take}
use Rattle.std.specs.BTreeSet.{contains_text}
use Rattle.mediator_shares.specs.Alike.{is_told_apart}
use Rattle.mediator_shares.proofs.revision.named_by.Given as goal

abbrev pub invariant-rules : goal.invariant-rules
invariant-rules l = (name : List ℕ) → contains_text l.named name ≡ is_told_apart name (take l.rule-index l.rules)
