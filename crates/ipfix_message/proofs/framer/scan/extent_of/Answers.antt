use Rattle.std.proofs.Common.{arith, length-drop}
use Rattle.std.proofs.lemmas.List.{take_rest}
use Rattle.ipfix_message.proofs.FramerLaws.{AreMessages-more}
use Rattle.ipfix_message.proofs.framer.scan.extent_of.Goals as goal

pub messages-preserved : goal.messages-preserved
messages-preserved c =
    let whole = c.messages.whole in
    let left = rw (take_rest c.args.octets.now whole) at c.in-Whole.ensures in
    let room = length-drop whole c.args.octets.now in
    record {
      within = omega (arith, left.0, room);
      messages = AreMessages-more c.args.octets.now whole c.in-Whole.length c.messages.invariant.messages left.1;
    }
