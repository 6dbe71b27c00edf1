use Rattle.std.proofs.Common.{◌≡◌, take, ◌≤◌, ◌*◌}
use Rattle.std.specs.List.{sum_by}
use Rattle.ipfix_template.specs.Template.{least_octets}
use Rattle.ipfix_template.proofs.template.least_octets_of.Given as goal

abbrev pub invariant-loop-field : goal.invariant-loop-field
invariant-loop-field l = (l.octets ≡ sum_by least_octets (take l.field-index l.fields)) × (l.octets ≤ 65534 * l.field-index)
