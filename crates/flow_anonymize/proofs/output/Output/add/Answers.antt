use Rattle.std.proofs.Common.{◌≡◌, Option, IsSome, sym, ap, ◌∙◌, subst}
use Rattle.std.specs.Arc.{arc_value}
use Rattle.std.specs.Option.{option_map}
use Rattle.ipfix_template.specs.declared.template.Template.{Template}
use Rattle.flow_anonymize.specs.Output.{OutputOf}
use Rattle.flow_anonymize.specs.Planning.{shown_template}
use Rattle.flow_anonymize.proofs.OutputLaws.{add_output, add_shows}
use Rattle.flow_anonymize.proofs.output.Output.add.Goals as goal

-- the template that is written
template_is : (c : goal.After-push_reserved) → option_map arc_value c.self.inside.template ≡ c.args.self.now.writing
template_is c = ap (λ (o : OutputOf). o.writing) (c.self.view_is ∙ c.in_ok-renew_long_run.ensures.unchanged)

some : (c : goal.After-push_reserved) → IsSome (option_map arc_value c.self.inside.template)
some c = subst (λ (t : Option Template). IsSome t) (sym (template_is c)) c.requires.begun

same : (c : goal.After-push_reserved) → option_map arc_value c.self.inside.template ≡ shown_template c.args.plan.now
same c = template_is c ∙ c.requires.same

pub invariant_of-self-in-Ok : goal.invariant_of-self-in-Ok
invariant_of-self-in-Ok c =
    add_output c.args.plan.now c.args.flow_record.now (option_map arc_value c.self.inside.template) c.self.inside.text.items c.self.inside.ends.items c.put_shown.new.text.items c.reserve.new.self.items c.push_reserved.new.self.items c.in-Ok.end
    c.requires.showable (some c) (same c) c.self.invariant c.in-Ok.ensures.text c.in_ok-reserve.ensures.items c.push_reserved.ensures.items c.in-Ok.ensures.end

pub returns-in-Ok : goal.returns-in-Ok
returns-in-Ok c =
    add_shows c.args.plan.now c.args.flow_record.now c.args.self.now c.renew_long_run.new.self c.self.inside.done (option_map arc_value c.self.inside.template) c.self.inside.text.items c.self.inside.ends.items c.put_shown.new.text.items c.reserve.new.self.items c.push_reserved.new.self.items c.in-Ok.end
    c.requires.showable (some c) (same c) c.self.invariant c.in-Ok.ensures.text c.in_ok-reserve.ensures.items c.push_reserved.ensures.items c.in-Ok.ensures.end c.self.view_is c.in_ok-renew_long_run.ensures.unchanged
