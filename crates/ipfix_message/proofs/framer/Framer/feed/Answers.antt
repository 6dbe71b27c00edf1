use Rattle.std.proofs.Common.{◌≡◌, [], take, refl, arith}
use Rattle.std.proofs.lemmas.Grind.{common_steps}
use Rattle.ipfix_message.specs.Fronts.{IsExtent, AreCut}
use Rattle.ipfix_message.proofs.FramerLaws.{goes_on, stops, stops_at_once}
use Rattle.ipfix_message.proofs.framer.Framer.feed.Goals as goal

pub returns-then-is_empty-clause-err : goal.returns-then-is_empty-clause-err
returns-then-is_empty-clause-err c =
    let e = c.extent_of-extent.result in
    let held = c.extend_from_slice.new.self.items in
    let out = c.in-Ok.messages.items in
    let extent : IsExtent held e = rw c.as_slice.ensures.value at c.extent_of-extent.ensures in
    let cut : AreCut (take e.whole held) out = c.in-Ok.ensures.ok in
    let nothing : out ≡ [] = grind (arith, common_steps) in
    rw (← c.self.view_is)
    (stops_at_once _ _ c.args.piece.now held e out c.in-Some-fault.fault c.in_default.is c.in_ok-extend_from_slice.ensures.items extent cut c.in-Some-fault.is refl c.clear.ensures.items nothing)

pub returns-clause-ok : goal.returns-clause-ok
returns-clause-ok c =
    let e = c.extent_of-extent.result in
    let held = c.extend_from_slice.new.self.items in
    let out = c.in-Ok.messages.items in
    let extent : IsExtent held e = rw c.as_slice.ensures.value at c.extent_of-extent.ensures in
    let cut : AreCut (take e.whole held) out = c.in-Ok.ensures.ok in
    rw (← c.self.view_is)
    (c.in_default.is, stops _ _ c.args.piece.now held e out c.in-Some-fault.fault c.in_default.is c.in_ok-extend_from_slice.ensures.items extent cut c.in-Some-fault.is refl c.clear.ensures.items)

pub returns-in_default-fault-clause-ok : goal.returns-in_default-fault-clause-ok
returns-in_default-fault-clause-ok c =
    let e = c.extent_of-extent.result in
    let held = c.extend_from_slice.new.self.items in
    let out = c.in-Ok.messages.items in
    let extent : IsExtent held e = rw c.as_slice.ensures.value at c.extent_of-extent.ensures in
    let cut : AreCut (take e.whole held) out = c.in-Ok.ensures.ok in
    rw (← c.self.view_is)
    (c.in_default.is, goes_on _ _ c.args.piece.now held e out c.in_default.is c.in_ok-extend_from_slice.ensures.items extent cut c.in_default-fault.is c.in_default.is c.in-Ok.ensures.rest)
