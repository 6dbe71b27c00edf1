use Rattle.std.proofs.Common.{◌≡◌, length, ap, ◌∙◌, sym, arith, rules}
use Rattle.std.proofs.lemmas.Bool.{eqb-true}
use Rattle.flow_anonymize.specs.Remaining.{removed_fields}
use Rattle.flow_anonymize.proofs.Sound.{template_stays, few_left}
use Rattle.flow_anonymize.proofs.plan.remaining_template.Goals as goal

pub returns-then-is_empty : goal.returns-then-is_empty
returns-then-is_empty c =
    let none = eqb-true (length c.args.removed.now) 0 (sym c.if-is_empty.ensures) in
    let all : length (removed_fields c.args.verdicts.now) ≡ 0 = ap length (sym c.requires.removed) ∙ none in
    let stays = template_stays c.args.flow_record.now.template c.args.verdicts.now all c.requires.judged.each in
    rw (stays, ← c.shared_template.ensures.value) (search (rules, c.clone.ensures.cases))

pub unreachable-requires : goal.unreachable-requires
unreachable-requires c =
    let few = few_left c.as_slice.result.now c.args.verdicts.now in
    let kept = ap length c.in_ok-kept.ensures in
    omega (arith, few, kept, c.in-Err.ensures.1, c.as_slice.ensures.few, ap length c.as_slice.ensures.value)
