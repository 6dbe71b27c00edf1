use Rattle.std.proofs.Common.{◌<◌, List, length, sym, ap, ◌∙◌, arith}
use Rattle.policy_text.specs.Policies.{Aggregate}
use Rattle.policy_text.specs.Lines.{aggregate_of}
use Rattle.policy_text.proofs.SoundLaws.{aggregate_of-sound}
use Rattle.policy_text.proofs.KeptLaws.{with_aggregate-kept}
use Rattle.policy_text.proofs.policy.Policy.add_aggregate.Goals as goal

pub invariant_of-self-2 : goal.invariant_of-self-2
invariant_of-self-2 c =
    let read = ap (λ (list : List Aggregate). aggregate_of list c.args.words.now) (sym c.deref.ensures.value) ∙ c.in_ok-aggregate.ensures.value in
    let sound = aggregate_of-sound c.self.inside.aggregates.items c.args.words.now c.in_ok-aggregate.aggregate read in
    let room : length c.self.inside.aggregates.items < 256 = omega arith in
    rw c.in_ok-push.ensures.items (with_aggregate-kept (record { version = c.self.inside.version; aggregates = c.self.inside.aggregates.items; rules = c.self.inside.rules.items }) c.in_ok-aggregate.aggregate c.self.invariant sound room)
