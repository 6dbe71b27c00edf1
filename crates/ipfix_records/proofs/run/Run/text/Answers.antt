use Rattle.std.proofs.Common.{ap, ◌∙◌, arith}
use Rattle.std.specs.Arc.{arc_value}
use Rattle.ipfix_records.specs.declared.run.RunTexts.{RunTexts}
use Rattle.ipfix_records.specs.Runs.{RunOf}
use Rattle.ipfix_records.proofs.PieceLaws.{ends_there}
use Rattle.ipfix_records.proofs.run.Run.text.Goals as goal

pub place_of-start-requires-clause-index : goal.place_of-start-requires-clause-index
place_of-start-requires-clause-index c =
    omega (arith, c.requires, ends_there (arc_value c.self.inside.texts).octets (arc_value c.self.inside.texts).ends.items c.deref-4.result.now c.args.self.now.texts (ap (λ (r : RunOf). r.texts) c.self.view_is) (c.deref-4.ensures.value ∙ ap (λ (t : RunTexts). t.ends.items) c.deref-3.ensures))
