use Rattle.std.proofs.Common.{Option, ap, ◌∙◌}
use Rattle.std.specs.Option.{option_or}
use Rattle.ipfix_template.specs.declared.template.Template.{Template}
use Rattle.ipfix_session.specs.TemplateMaps.{in_map}
use Rattle.ipfix_session.proofs.TableSteps.{table-now}
use Rattle.ipfix_session.proofs.table.Table.get.Goals as goal

pub returns-in-Some-clause-value : goal.returns-in-Some-clause-value
returns-in-Some-clause-value c =
    let s = c.self.inside in
    ap (λ (o : Option Template). option_or o (in_map s.options c.args.id)) c.in-Some.ensures ∙ table-now s.plain s.options c.args.self.now c.self.view_is c.args.id

pub returns-in-None-clause-value : goal.returns-in-None-clause-value
returns-in-None-clause-value c =
    let s = c.self.inside in
    c.get-in-None.ensures ∙ ap (λ (o : Option Template). option_or o (in_map s.options c.args.id)) c.in-None.ensures ∙ table-now s.plain s.options c.args.self.now c.self.view_is c.args.id
