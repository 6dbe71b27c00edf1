use Rattle.flow_anonymize.proofs.StretchLaws.{join_shown, join_hidden}
use Rattle.flow_anonymize.proofs.stretch.Stretch.joined.Goals as goal

pub returns-then-self-eq0-2 : goal.returns-then-self-eq0-2
returns-then-self-eq0-2 c = join_shown c.of.result c.args.self c.args.next c.in_ok-shown.shown c.if-self-eq0.true c.if-self-eq0-2.true c.in_ok-shown.ensures.1 c.of.ensures

pub returns-then-next-eq0 : goal.returns-then-next-eq0
returns-then-next-eq0 c = join_hidden c.of-then-next-eq0.result c.args.self c.args.next c.in_ok-zeros.zeros c.if-self-eq0-3.true c.if-next-eq0.true c.in_ok-zeros.ensures.1 c.of-then-next-eq0.ensures
