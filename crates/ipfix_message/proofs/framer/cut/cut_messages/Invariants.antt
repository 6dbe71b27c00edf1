use Rattle.std.proofs.Common.{◌≡◌, ◌++◌, length}
use Rattle.std.specs.List.{concat, All}
use Rattle.ipfix_message.specs.Framing.{IsWhole}
use Rattle.ipfix_message.proofs.framer.cut.cut_messages.Given as goal

abbrev pub invariant-messages : goal.invariant-messages
invariant-messages l = record { each : All IsWhole l.messages.items; joined : l.fn.octets ≡ concat l.messages.items ++ l.octets }

abbrev pub decreases-messages : goal.decreases-messages
decreases-messages l = length l.octets
