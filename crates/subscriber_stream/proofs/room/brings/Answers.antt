use Rattle.std.proofs.Common.{◌∙◌, sym, ap, arith}
use Rattle.std.proofs.lemmas.Bool.{le-ltb}
use Rattle.ipfix_template.specs.declared.template.Template.{Template}
use Rattle.ipfix_template.specs.Equality.{same_template}
use Rattle.subscriber_stream.proofs.Rooms.{used_run, used_none}
use Rattle.subscriber_stream.proofs.room.brings.Goals as goal

pub returns-then-len-gt0 : goal.returns-then-len-gt0
returns-then-len-gt0 c =
    c.eq.ensures ∙ ap (λ (t : Template). same_template c.args.template.now t) c.template.ensures.value ∙ sym (used_run c.args.template.now c.args.run.now.template c.args.run.now.texts (omega (arith, c.len.ensures.value)))

pub returns-else-len-gt0 : goal.returns-else-len-gt0
returns-else-len-gt0 c =
    le-ltb 0 c.len.result (omega arith) ∙ sym (used_none c.args.template.now c.args.run.now.template c.args.run.now.texts (omega (arith, c.len.ensures.value)))
