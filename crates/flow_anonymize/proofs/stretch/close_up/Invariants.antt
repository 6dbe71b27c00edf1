use Rattle.std.proofs.Common.{◌++◌, take, drop}
use Rattle.flow_anonymize.specs.Stretches.{shown_in}
use Rattle.flow_anonymize.proofs.StretchLaws.{IsClosing}
use Rattle.flow_anonymize.proofs.stretch.close_up.Given as goal

abbrev pub invariant-loop-stretch : goal.invariant-loop-stretch
invariant-loop-stretch l = IsClosing l.held (take l.held l.fn.text.items ++ shown_in l.stretches l.octets) l.octets (drop l.stretch-index l.stretches) l.put l.rest l.text.items
