use Rattle.std.proofs.Common.{◌≡◌, length}
use Rattle.ipfix_template.specs.Sequence.{read_all, with_front}
use Rattle.ipfix_message.specs.Reading.{template_front}
use Rattle.ipfix_message.proofs.sets.put_templates.Given as goal

abbrev pub invariant-records : goal.invariant-records
invariant-records l = with_front l.items.items (read_all (template_front l.options) l.rest) ≡ with_front l.fn.items.items (read_all (template_front l.options) l.content)

abbrev pub decreases-records : goal.decreases-records
decreases-records l = length l.rest
