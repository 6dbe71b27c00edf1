use Rattle.std.proofs.Common.{◌≡◌, [], ◌∷◌}
use Rattle.std.proofs.lemmas.Result.{err_from_is_err_and}
use Rattle.ipfix_template.specs.Sequence.{Next}
use Rattle.ipfix_message.specs.Reading.{template_front}
use Rattle.ipfix_message.proofs.Shrinks.{template_takes}
use Rattle.ipfix_message.proofs.ReadingSteps.{some_more, no_more, faulty, front_ends}
use Rattle.ipfix_message.proofs.sets.put_templates.Goals as goal

pub returns-in_err-item : goal.returns-in_err-item
returns-in_err-item c =
    let p = err_from_is_err_and c.from_residual.result c.from_residual.ensures.1 in
    rw (p.1, p.2) (faulty (template_front c.args.options) (template_takes c.args.options) c.records.items.items c.records.rest.now _ c.in_err-item.field-0.0 c.in_err-item.ensures c.records.invariant)

pub records-smaller : goal.records-smaller
records-smaller c =
    let at : template_front c.args.options c.records.rest.now ≡ Next (c.in-Some.item ∷ []) c.in-Some.after.now = rw c.in-Some.is at c.in_ok-item.ensures in
    template_takes c.args.options c.records.rest.now c.in-Some.after.now (c.in-Some.item ∷ []) at

pub records-preserved : goal.records-preserved
records-preserved c =
    let at : template_front c.args.options c.records.rest.now ≡ Next (c.in-Some.item ∷ []) c.in-Some.after.now = rw c.in-Some.is at c.in_ok-item.ensures in
    rw c.in_ok-push.ensures.items (some_more (template_front c.args.options) (template_takes c.args.options) c.records.items.items (c.in-Some.item ∷ []) c.records.rest.now c.in-Some.after.now _ at c.records.invariant)

pub returns : goal.returns
returns c =
    no_more (template_front c.args.options) (template_takes c.args.options) c.records.items.items c.records.rest.now _ (front_ends c.in_ok-item.field-0 _ c.in_default.not-Some c.in_ok-item.ensures) c.records.invariant
