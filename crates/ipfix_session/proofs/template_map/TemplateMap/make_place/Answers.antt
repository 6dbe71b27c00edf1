use Rattle.std.proofs.Common.{◌≡◌, ap, ◌∙◌, false, None, refl, is_some, rules}
use Rattle.std.specs.Option.{option_map}
use Rattle.std.specs.Arc.{arc_value}
use Rattle.ipfix_session.specs.Keeping.{at_key}
use Rattle.ipfix_session.specs.Places.{shown_in}
use Rattle.ipfix_session.proofs.PlaceSteps.{shown-room}
use Rattle.ipfix_session.proofs.template_map.TemplateMap.make_place.Goals as goal

pub returns-in_ok-insert-clause-unchanged : goal.returns-in_ok-insert-clause-unchanged
returns-in_ok-insert-clause-unchanged c =
    let none : is_some (at_key c.args.id c.args.self.now.places.entries) ≡ false = search rules in
    ap (shown_in (option_map arc_value)) c.in_ok-insert.ensures.entries ∙ shown-room (option_map arc_value) c.args.id None c.args.self.now.places.entries refl none
