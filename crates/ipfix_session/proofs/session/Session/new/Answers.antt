use Rattle.ipfix_session.specs.Meaning.{items_of_domain, expected_number}
use Rattle.ipfix_session.specs.InForce.{template_in_force}
use Rattle.std.proofs.Common.{refl}
use Rattle.ipfix_session.proofs.session.Session.new.Goals as goal

pub returns : goal.returns
unfolding items_of_domain expected_number template_in_force
returns c = rw (c.new.ensures, c.new-2.ensures) record { templates = λ domain id. refl; expected = λ domain. refl }
