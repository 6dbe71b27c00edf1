use Rattle.std.proofs.Common.{rules}
use Rattle.std.specs.Arc.{arc_value}
use Rattle.ipfix_session.proofs.MapSteps.{shown_clone, keys_clone}
use Rattle.ipfix_session.proofs.template_map.TemplateMapClone.clone.Goals as goal

pub returns : goal.returns
returns c = record {
  cases = record {
    shown = shown_clone arc_value _ (λ y d. search rules) (λ x d. search rules) (λ x y d. search rules) c.args.self.now.places.entries c.in_ok-clone.field-0.entries c.in_ok-clone.ensures.cases;
    places = keys_clone _ c.args.self.now.places.entries c.in_ok-clone.field-0.entries c.in_ok-clone.ensures.cases;
  };
}
