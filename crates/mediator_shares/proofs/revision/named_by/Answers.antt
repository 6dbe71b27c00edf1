use Rattle.std.proofs.Common.{◌||◌, Bool, take, sym, ap, ◌∙◌, arith}
use Rattle.std.proofs.lemmas.List.Folds.{list_any_more}
use Rattle.policy_text.specs.declared.rule.Rule.{Rule}
use Rattle.mediator_shares.specs.Alike.{is_who, is_told_apart}
use Rattle.mediator_shares.proofs.revision.named_by.Goals as goal

pub rules-preserved : goal.rules-preserved
rules-preserved c = λ name.
    let rules = c.args.rules.now in
    let k = c.rules.rule-index in
    let rule = c.rule-item.result in
    c.in_ok-put_named.ensures name ∙ ap (λ (b : Bool). b || is_who name rule.who) (c.rules.invariant name)
    ∙ ap (λ (r : Rule). is_told_apart name (take k rules) || is_who name r.who) c.rule-item.is
    ∙ sym (list_any_more (λ (r : Rule). is_who name r.who) rules k rule (omega (arith, c.rules-test.true)))
