use Rattle.std.proofs.Common.{◌≡◌, rules, sym, ◌∙◌, arith}
use Rattle.prepared_message.proofs.AheadLaws.{more_texts, same_run, same_texts}
use Rattle.prepared_message.proofs.ahead.is_same.Goals as goal

pub texts-preserved : goal.texts-preserved
texts-preserved c =
    let same : c.text.result.now ≡ c.text-in-texts.result.now = search rules in
    more_texts c.args.run.now.texts c.args.other.now.texts c.texts.index c.text.result.now c.text-in-texts.result.now (omega (arith, c.texts-test.true, c.len-index-end.ensures.value))
    (omega (arith, c.texts-test.true, c.len-index-end.ensures.value, c.len.ensures.value, c.len-2.ensures.value, c.if-len.false)) c.text.ensures.value c.text-in-texts.ensures.value same c.texts.invariant

pub returns : goal.returns
returns c =
    let template : c.args.run.now.template ≡ c.args.other.now.template = c.have_same_template.ensures c.if-not-have_same_template.false in
    λ yes. same_run c.args.run.now c.args.other.now template
    (same_texts c.args.run.now.texts c.args.other.now.texts c.texts.index (omega (arith, c.texts-test.false, c.len-index-end.ensures.value))
    (omega (arith, c.texts-test.false, c.len-index-end.ensures.value, c.len.ensures.value, c.len-2.ensures.value, c.if-len.false)) c.texts.invariant)
