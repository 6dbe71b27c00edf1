use Rattle.std.proofs.Common.{◌∙◌, ◌≤◌, drop, length, sym, ap, arith, length-drop}
use Rattle.std.specs.Arc.{arc_value}
use Rattle.ipfix_records.specs.declared.run.RunTexts.{RunTexts}
use Rattle.std.proofs.lemmas.List.{drop-drop}
use Rattle.subscriber_stream.proofs.TextLaws.{count_few, drop_pieces, ends_of_rest}
use Rattle.subscriber_stream.proofs.texts.Texts.hand_out.Goals as goal

few : (c : goal.After-deref-2) → c.args.count ≤ length (drop c.self.inside.handed (arc_value c.self.inside.texts).ends.items)
few c = count_few (arc_value c.self.inside.texts).octets c.self.inside.start _ c.args.count (rw (← c.self.view_is) at c.requires)

pub end_of-self-inside-requires : goal.end_of-self-inside-requires
end_of-self-inside-requires c =
    omega (arith, few c, length-drop c.self.inside.handed (arc_value c.self.inside.texts).ends.items, ap length (c.deref-2.ensures.value ∙ ap (λ (t : RunTexts). t.ends.items) c.deref.ensures), c.self.invariant.1)

pub overflow_add-self : goal.overflow_add-self
overflow_add-self c =
    let few = count_few (arc_value c.self.inside.texts).octets c.self.inside.start (drop c.self.inside.handed (arc_value c.self.inside.texts).ends.items) c.args.count (rw (← c.self.view_is) at c.requires) in
    omega (arith, few, length-drop c.self.inside.handed (arc_value c.self.inside.texts).ends.items, ap length (c.deref-2.ensures.value ∙ ap (λ (t : RunTexts). t.ends.items) c.deref.ensures), c.self.invariant.1)

pub invariant_of-self : goal.invariant_of-self
invariant_of-self c =
    let few = count_few (arc_value c.self.inside.texts).octets c.self.inside.start (drop c.self.inside.handed (arc_value c.self.inside.texts).ends.items) c.args.count (rw (← c.self.view_is) at c.requires) in
    let rest = ends_of_rest c.args.count c.self.inside.start (drop c.self.inside.handed (arc_value c.self.inside.texts).ends.items) (length (arc_value c.self.inside.texts).octets) few c.self.invariant.0 in
    let at = rw (c.deref-2.ensures.value ∙ ap (λ (t : RunTexts). t.ends.items) c.deref.ensures) at c.end_of-self-inside.ensures in
    (rw (at, ← drop-drop) rest, omega (arith, few, length-drop c.self.inside.handed (arc_value c.self.inside.texts).ends.items, c.self.invariant.1))

pub returns : goal.returns
returns c =
    let few = count_few (arc_value c.self.inside.texts).octets c.self.inside.start (drop c.self.inside.handed (arc_value c.self.inside.texts).ends.items) c.args.count (rw (← c.self.view_is) at c.requires) in
    let rest = drop_pieces c.args.count (arc_value c.self.inside.texts).octets c.self.inside.start (drop c.self.inside.handed (arc_value c.self.inside.texts).ends.items) few in
    let at = rw (c.deref-2.ensures.value ∙ ap (λ (t : RunTexts). t.ends.items) c.deref.ensures) at c.end_of-self-inside.ensures in
    rw (← c.self.view_is, at, ← drop-drop) (sym rest)
