use Rattle.std.proofs.Common.{Option, sym, subst}
use Rattle.ipfix_template.specs.declared.template.Template.{Template}
use Rattle.ipfix_session.specs.TemplateMaps.{in_map}
use Rattle.ipfix_session.specs.Tables.{IsOneOfKind}
use Rattle.ipfix_session.proofs.MapSteps.{same_shown}
use Rattle.ipfix_session.proofs.table.TableClone.clone.Goals as goal

pub invariant_of-result : goal.invariant_of-result
invariant_of-result c = λ q.
    let s = c.self.inside in
    subst (λ (p : Option Template). IsOneOfKind p (in_map c.in_ok-clone-2.field-0 q)) (sym (same_shown c.in_ok-clone.field-0 s.plain c.in_ok-clone.ensures.cases.shown q))
    (subst (λ (o : Option Template). IsOneOfKind (in_map s.plain q) o) (sym (same_shown c.in_ok-clone-2.field-0 s.options c.in_ok-clone-2.ensures.cases.shown q)) (c.self.invariant q))
