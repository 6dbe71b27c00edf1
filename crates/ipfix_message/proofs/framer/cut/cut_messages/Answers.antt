use Rattle.std.proofs.Common.{◌≡◌, [], ◌∷◌, ◌++◌, take, sym, subst}
use Rattle.std.specs.List.{All}
use Rattle.ipfix_message.specs.Framing.{IsWhole}
use Rattle.ipfix_message.proofs.FramerLaws.{each_more, joined_more, cut_all}
use Rattle.ipfix_message.proofs.framer.cut.cut_messages.Goals as goal

pub messages-preserved : goal.messages-preserved
messages-preserved c =
    let left = c.messages.octets in
    let found = c.messages.messages.items in
    let front = rw c.as_slice.ensures at c.in-Whole.ensures in
    let pushed : c.push.new.self.items ≡ found ++ take c.in-Whole.length left ∷ [] = rw (← c.in_ok-split_to.ensures.front) c.in_ok-push.ensures.items in
    record {
      each = subst (All IsWhole) (sym pushed) (each_more found (take c.in-Whole.length left) c.messages.invariant.each front.1);
      joined = rw (pushed, c.in_ok-split_to.ensures.rest) (joined_more c.args.octets left found c.in-Whole.length c.messages.invariant.joined);
    }

pub returns : goal.returns
returns c =
    cut_all c.args.octets c.messages.octets c.messages.messages.items c.front_of.result c.messages.invariant.joined c.messages.invariant.each (rw c.as_slice.ensures at c.front_of.ensures) c.in_default.not-Whole
