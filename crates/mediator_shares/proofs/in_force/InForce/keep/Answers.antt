use Rattle.std.proofs.Common.{List, [], ◌∷◌, ◌++◌, sym, ap, subst, ◌∙◌}
use Rattle.std.specs.List.{All}
use Rattle.std.specs.Arc.{arc_value}
use Rattle.std.proofs.lemmas.List.Elements.{All-append}
use Rattle.policy_text.specs.declared.rule.Rule.{Rule}
use Rattle.mediator_shares.specs.InForce.{InForce}
use Rattle.mediator_shares.specs.Judges.{Judges, AreJudgesReady}
use Rattle.mediator_shares.proofs.JudgeLaws.{all_one}
use Rattle.mediator_shares.proofs.in_force.InForce.keep.Goals as goal

pub invariant_of-self-else-is_ok : goal.invariant_of-self-else-is_ok
invariant_of-self-else-is_ok c =
    let rules = (arc_value c.self.inside.revision).rules in
    subst (λ (js : List Judges). All (AreJudgesReady rules) js) (sym c.reserve.ensures.items) (c.make_room.ensures rules c.self.invariant)

pub invariant_of-self : goal.invariant_of-self
invariant_of-self c =
    let rules = (arc_value c.self.inside.revision).rules in
    subst (λ (js : List Judges). All (AreJudgesReady rules) js) (sym (c.push_reserved.ensures.items ∙ ap (λ (js : List Judges). js ++ c.args.judges ∷ []) c.reserve.ensures.items))
    (All-append (AreJudgesReady rules) c.make_room.new.kept.items (c.args.judges ∷ []) (c.make_room.ensures rules c.self.invariant)
    (all_one (AreJudgesReady rules) c.args.judges (subst (λ (r : List Rule). AreJudgesReady r c.args.judges) (sym (ap (λ (f : InForce). f.policy.rules) c.self.view_is)) c.requires)))
