use Rattle.std.proofs.Common.{Bool, true, false, Option, sym, ap, ◌∙◌}
use Rattle.std.specs.Option.{option_or}
use Rattle.ipfix_template.specs.declared.template.Template.{Template}
use Rattle.ipfix_session.specs.InForce.{unless_of_kind}
use Rattle.ipfix_session.specs.Keeping.{at_key}
use Rattle.ipfix_session.specs.TemplateMaps.{in_map}
use Rattle.ipfix_session.proofs.MapSteps.{in_map-none}
use Rattle.ipfix_session.proofs.TableSteps.{table-at, table-now, left-plain, left-options}
use Rattle.ipfix_session.proofs.table.Table.withdraw_all.Goals as goal

pub returns-then-options : goal.returns-then-options
returns-then-options c = λ q.
    let s = c.self.inside in
    table-at s.plain c.new.result q
    ∙ ap (option_or (in_map s.plain q)) (in_map-none c.new.result c.new.ensures q)
    ∙ left-plain (in_map s.plain q) (in_map s.options q) (c.self.invariant q)
    ∙ ap (unless_of_kind true) (table-now s.plain s.options c.args.self.now c.self.view_is q)
    ∙ ap (λ (b : Bool). unless_of_kind b (at_key q c.args.self.now.templates)) (sym c.if-options.true)

pub returns-else-options : goal.returns-else-options
returns-else-options c = λ q.
    let s = c.self.inside in
    table-at c.new-else-options.result s.options q
    ∙ ap (λ (o : Option Template). option_or o (in_map s.options q)) (in_map-none c.new-else-options.result c.new-else-options.ensures q)
    ∙ left-options (in_map s.plain q) (in_map s.options q) (c.self.invariant q)
    ∙ ap (unless_of_kind false) (table-now s.plain s.options c.args.self.now c.self.view_is q)
    ∙ ap (λ (b : Bool). unless_of_kind b (at_key q c.args.self.now.templates)) (sym c.if-options.false)
