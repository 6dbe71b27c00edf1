use Rattle.std.proofs.Common.{◌≤◌, ◌-◌, length, take}
use Rattle.ipfix_message.specs.Fronts.{AreMessages}
use Rattle.ipfix_message.proofs.framer.scan.extent_of.Given as goal

abbrev pub invariant-messages : goal.invariant-messages
invariant-messages l = record { within : l.whole ≤ length l.octets; messages : AreMessages (take l.whole l.octets) }

abbrev pub decreases-messages : goal.decreases-messages
decreases-messages l = length l.octets - l.whole
