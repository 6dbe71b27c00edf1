use Rattle.std.proofs.Common.{ap, ◌∙◌, arith}
use Rattle.std.specs.Arc.{arc_value}
use Rattle.ipfix_records.specs.declared.run.RunTexts.{RunTexts}
use Rattle.ipfix_records.specs.Runs.{RunOf}
use Rattle.ipfix_records.proofs.PieceLaws.{ends_there, end_shown}
use Rattle.ipfix_records.proofs.run.Run.end.Goals as goal

pub end_of-requires : goal.end_of-requires
end_of-requires c =
    omega (arith, c.requires, ends_there (arc_value c.self.inside.texts).octets (arc_value c.self.inside.texts).ends.items c.deref-2.result.now c.args.self.now.texts (ap (λ (r : RunOf). r.texts) c.self.view_is) (c.deref-2.ensures.value ∙ ap (λ (t : RunTexts). t.ends.items) c.deref.ensures))

pub returns-clause-value : goal.returns-clause-value
returns-clause-value c =
    (end_shown (arc_value c.self.inside.texts).octets (arc_value c.self.inside.texts).ends.items c.deref-2.result.now c.args.self.now.texts c.args.count c.end_of.result (ap (λ (r : RunOf). r.texts) c.self.view_is) c.self.invariant.0 (c.deref-2.ensures.value ∙ ap (λ (t : RunTexts). t.ends.items) c.deref.ensures) c.requires c.end_of.ensures).value

pub returns-clause-within : goal.returns-clause-within
returns-clause-within c =
    (end_shown (arc_value c.self.inside.texts).octets (arc_value c.self.inside.texts).ends.items c.deref-2.result.now c.args.self.now.texts c.args.count c.end_of.result (ap (λ (r : RunOf). r.texts) c.self.view_is) c.self.invariant.0 (c.deref-2.ensures.value ∙ ap (λ (t : RunTexts). t.ends.items) c.deref.ensures) c.requires c.end_of.ensures).within
