use Rattle.std.proofs.Common.{cond, eqb, None, ap, ◌∙◌}
use Rattle.std.specs.Option.{option_or}
use Rattle.ipfix_session.specs.TemplateMaps.{in_map}
use Rattle.ipfix_session.proofs.TableSteps.{table-at, table-now, or-removed}
use Rattle.ipfix_session.proofs.table.Table.withdraw.Goals as goal

pub returns : goal.returns
returns c = λ q.
    let s = c.self.inside in
    table-at c.remove.new.self c.remove-2.new.self q
    ∙ (λ i. option_or (c.remove.ensures.others q i) (c.remove-2.ensures.others q i))
    ∙ or-removed (eqb q c.args.id) (in_map s.plain q) (in_map s.options q)
    ∙ ap (cond (eqb q c.args.id) None) (table-now s.plain s.options c.args.self.now c.self.view_is q)
