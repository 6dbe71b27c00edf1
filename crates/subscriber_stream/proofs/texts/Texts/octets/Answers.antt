use Rattle.std.proofs.Common.{◌∙◌, ◌≤◌, drop, length, ap, arith, length-drop}
use Rattle.std.specs.Arc.{arc_value}
use Rattle.ipfix_records.specs.declared.run.RunTexts.{RunTexts}
use Rattle.subscriber_stream.proofs.TextLaws.{is_front, count_few}
use Rattle.subscriber_stream.proofs.texts.Texts.octets.Goals as goal

few : (c : goal.After-deref-2) → c.args.count ≤ length (drop c.self.inside.handed (arc_value c.self.inside.texts).ends.items)
few c = count_few (arc_value c.self.inside.texts).octets c.self.inside.start _ c.args.count (rw (← c.self.view_is) at c.requires)

pub end_of-requires : goal.end_of-requires
end_of-requires c =
    omega (arith, few c, length-drop c.self.inside.handed (arc_value c.self.inside.texts).ends.items, ap length (c.deref-2.ensures.value ∙ ap (λ (t : RunTexts). t.ends.items) c.deref.ensures), c.self.invariant.1)

pub overflow_sub-result : goal.overflow_sub-result
overflow_sub-result c = (is_front (arc_value c.self.inside.texts).octets c.self.inside.start (drop c.self.inside.handed (arc_value c.self.inside.texts).ends.items) c.args.count c.end_of.result (count_few (arc_value c.self.inside.texts).octets c.self.inside.start _ c.args.count (rw (← c.self.view_is) at c.requires)) c.self.invariant.0 (rw (c.deref-2.ensures.value ∙ ap (λ (t : RunTexts). t.ends.items) c.deref.ensures) at c.end_of.ensures)).behind

pub returns : goal.returns
returns c =
    let front = is_front (arc_value c.self.inside.texts).octets c.self.inside.start (drop c.self.inside.handed (arc_value c.self.inside.texts).ends.items) c.args.count c.end_of.result (count_few (arc_value c.self.inside.texts).octets c.self.inside.start _ c.args.count (rw (← c.self.view_is) at c.requires)) c.self.invariant.0 (rw (c.deref-2.ensures.value ∙ ap (λ (t : RunTexts). t.ends.items) c.deref.ensures) at c.end_of.ensures) in
    record { exact = rw (← c.self.view_is) front.counted; few = omega arith }
