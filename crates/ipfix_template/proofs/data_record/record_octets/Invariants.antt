use Rattle.std.proofs.Common.{◌≡◌, ◌≤◌, ◌*◌, take, length}
use Rattle.ipfix_template.specs.Values.{record_text}
use Rattle.ipfix_template.proofs.data_record.record_octets.Given as goal

abbrev pub invariant-loop-field : goal.invariant-loop-field
invariant-loop-field l = (l.octets ≡ length (record_text (take (length l.yielded) l.fields) (take (length l.yielded) l.values))) × (l.octets ≤ 65538 * length l.yielded)
