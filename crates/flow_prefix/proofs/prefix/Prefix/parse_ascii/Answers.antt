use Rattle.std.proofs.Common.{◌∙◌}
use Rattle.flow_prefix.proofs.PrefixLaws.{prefix_of-found, prefix_of-only, prefix_of-bad_text, prefix_of-bad_length, prefix_of-host_bits}
use Rattle.flow_prefix.proofs.prefix.Prefix.parse_ascii.Goals as goal

pub returns : goal.returns
returns c = record {
  exact = c.read_prefix.ensures;
  found = rw c.read_prefix.ensures (prefix_of-found c.args.text.now);
  only = λ p h. c.read_prefix.ensures ∙ prefix_of-only c.args.text.now p h;
  bad_text = rw c.read_prefix.ensures (prefix_of-bad_text c.args.text.now);
  bad_length = rw c.read_prefix.ensures (prefix_of-bad_length c.args.text.now);
  host_bits = rw c.read_prefix.ensures (prefix_of-host_bits c.args.text.now);
}
