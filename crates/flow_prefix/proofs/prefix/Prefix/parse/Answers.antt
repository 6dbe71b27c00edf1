use Rattle.flow_prefix.proofs.prefix.Prefix.parse.Goals as goal

pub returns : goal.returns
returns c = rw c.as_bytes.ensures.value at c.parse_ascii.ensures
