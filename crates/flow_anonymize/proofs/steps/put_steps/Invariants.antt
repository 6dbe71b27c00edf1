use Rattle.std.proofs.Common.{◌≡◌, ◌++◌, length, take, drop}
use Rattle.flow_anonymize.specs.Steps.{shown_by}
use Rattle.flow_anonymize.proofs.steps.put_steps.Given as goal

abbrev pub invariant-steps : goal.invariant-steps
invariant-steps l = record {
  shown : l.text.items ++ shown_by (drop l.step-index l.steps) l.rest ≡ l.fn.text.items ++ shown_by l.steps l.fn.octets;
  held : take (length l.fn.text.items) l.text.items ≡ l.fn.text.items;
}
