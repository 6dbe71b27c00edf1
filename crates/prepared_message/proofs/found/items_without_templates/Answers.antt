use Rattle.prepared_message.proofs.SetLaws.{sets_read}
use Rattle.prepared_message.proofs.found.items_without_templates.Goals as goal

pub has_template_set-requires-clause-sets : goal.has_template_set-requires-clause-sets
has_template_set-requires-clause-sets c = sets_read c.args.octets.now c.in_ok-said.said.items c.in_ok-said.ensures.exact
