use Rattle.std.proofs.Common.{◌≡◌, ap, ◌∙◌, false, None, refl, is_some, rules}
use Rattle.ipfix_session.specs.Keeping.{at_key}
use Rattle.ipfix_session.specs.Places.{shown_in}
use Rattle.ipfix_session.specs.Expecting.{itself}
use Rattle.ipfix_session.proofs.PlaceSteps.{shown-room}
use Rattle.ipfix_session.proofs.numbers.Numbers.make_place.Goals as goal

pub returns-in_ok-insert-clause-unchanged : goal.returns-in_ok-insert-clause-unchanged
returns-in_ok-insert-clause-unchanged c =
    let none : is_some (at_key c.args.domain c.args.self.now.by_domain.entries) ≡ false = search rules in
    ap (shown_in itself) c.in_ok-insert.ensures.entries ∙ shown-room itself c.args.domain None c.args.self.now.by_domain.entries refl none
