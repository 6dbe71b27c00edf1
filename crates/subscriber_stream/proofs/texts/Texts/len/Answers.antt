use Rattle.std.proofs.Common.{ap, length, drop, arith, length-drop}
use Rattle.std.specs.Arc.{arc_value}
use Rattle.ipfix_records.specs.declared.run.RunTexts.{RunTexts}
use Rattle.ipfix_records.proofs.PieceLaws.{length_pieces}
use Rattle.subscriber_stream.proofs.texts.Texts.len.Goals as goal

pub returns : goal.returns
returns c =
    rw (← c.self.view_is) (omega (arith, ap (λ (t : RunTexts). length t.ends.items) c.deref.ensures, length_pieces (arc_value c.self.inside.texts).octets c.self.inside.start (drop c.self.inside.handed (arc_value c.self.inside.texts).ends.items), length-drop c.self.inside.handed (arc_value c.self.inside.texts).ends.items))
