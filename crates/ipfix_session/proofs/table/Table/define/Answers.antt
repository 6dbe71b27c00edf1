use Rattle.std.proofs.Common.{cond, eqb, Option, Some, sym, ◌∙◌, subst}
use Rattle.std.specs.Option.{option_or}
use Rattle.std.specs.Arc.{arc_value}
use Rattle.ipfix_template.specs.declared.template.Template.{Template}
use Rattle.ipfix_session.specs.TemplateMaps.{in_map}
use Rattle.ipfix_session.specs.Tables.{IsOneOfKind}
use Rattle.ipfix_session.proofs.MapSteps.{same_shown}
use Rattle.ipfix_session.proofs.TableSteps.{table-at, table-now, or-one_plain, or-one_options}
use Rattle.ipfix_session.proofs.table.Table.define.Goals as goal

pub invariant_of-self : goal.invariant_of-self
invariant_of-self c = λ q.
    let s = c.self.inside in
    subst (λ (o : Option Template). IsOneOfKind (in_map s.plain q) o) (sym (same_shown c.put.new.self s.options c.in_err-put.ensures.err q)) (c.self.invariant q)

pub invariant_of-self-in_err-put-2 : goal.invariant_of-self-in_err-put-2
invariant_of-self-in_err-put-2 c = λ q.
    let s = c.self.inside in
    subst (λ (p : Option Template). IsOneOfKind p (in_map s.options q)) (sym (same_shown c.put-else-is_options.new.self s.plain c.in_err-put-2.ensures.err q)) (c.self.invariant q)

pub returns-in_ok-put-clause-ok : goal.returns-in_ok-put-clause-ok
returns-in_ok-put-clause-ok c = λ q.
    let s = c.self.inside in
    let t = arc_value c.in_ok-shared.shared in
    table-at c.remove.new.self c.put.new.self q
    ∙ (λ i. option_or (c.remove.ensures.others q i) (c.in_ok-put.ensures.ok q i))
    ∙ or-one_options (eqb q c.args.id) t (in_map s.plain q) (in_map s.options q)
    ∙ (λ i. cond (eqb q c.args.id) (Some (c.in_ok-shared.ensures.ok i)) (table-now s.plain s.options c.args.self.now c.self.view_is q i))

pub returns-in_ok-put-2-clause-ok : goal.returns-in_ok-put-2-clause-ok
returns-in_ok-put-2-clause-ok c = λ q.
    let s = c.self.inside in
    let t = arc_value c.in_ok-shared.shared in
    table-at c.put-else-is_options.new.self c.remove-else-is_options.new.self q
    ∙ (λ i. option_or (c.in_ok-put-2.ensures.ok q i) (c.remove-else-is_options.ensures.others q i))
    ∙ or-one_plain (eqb q c.args.id) t (in_map s.plain q) (in_map s.options q)
    ∙ (λ i. cond (eqb q c.args.id) (Some (c.in_ok-shared.ensures.ok i)) (table-now s.plain s.options c.args.self.now c.self.view_is q i))
