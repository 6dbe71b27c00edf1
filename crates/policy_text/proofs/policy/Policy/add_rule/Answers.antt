use Rattle.std.proofs.Common.{◌<◌, List, length, sym, ap, ◌∙◌, arith}
use Rattle.policy_text.specs.Policies.{Aggregate}
use Rattle.policy_text.specs.Lines.{rule_of}
use Rattle.policy_text.proofs.SoundLaws.{rule_of-sound}
use Rattle.policy_text.proofs.KeptLaws.{with_rule-kept}
use Rattle.policy_text.proofs.policy.Policy.add_rule.Goals as goal

pub invariant_of-self-2 : goal.invariant_of-self-2
invariant_of-self-2 c =
    let read = ap (λ (list : List Aggregate). rule_of c.self.inside.version list c.args.words.now) (sym c.deref.ensures.value) ∙ c.in_ok-rule.ensures.value in
    let sound = rule_of-sound c.self.inside.version c.self.inside.aggregates.items c.args.words.now c.in_ok-rule.rule read in
    let room : length c.self.inside.rules.items < 4096 = omega arith in
    rw c.in_ok-push.ensures.items (with_rule-kept (record { version = c.self.inside.version; aggregates = c.self.inside.aggregates.items; rules = c.self.inside.rules.items }) c.in_ok-rule.rule c.self.invariant sound room)
