use Rattle.std.proofs.Common.{◌≡◌, ◌+◌, [], ◌∷◌, length, ap, ◌∙◌, arith}
use Rattle.std.specs.Vec.Iter.{into_iter_items}
use Rattle.std.proofs.lemmas.Result.{err_from_is_err_and}
use Rattle.std.proofs.lemmas.List.{nil_from_length}
use Rattle.ipfix_session.specs.Keeping.{StandIn}
use Rattle.ipfix_session.specs.Changing.{after}
use Rattle.ipfix_session.specs.Walking.{contents_in}
use Rattle.ipfix_session.proofs.WalkSteps.{walks_first, walks_more, walks_fault, walks_read, walks_keeps}
use Rattle.ipfix_session.proofs.walk.walk_items.Goals as goal

pub items-init : goal.items-init
items-init c =
    record {
      stand = rw c.into_iter-rest.ensures.rest c.requires.stand;
      room = record { done = 0; counted = record { unknown = omega arith; reserved = omega arith; refused = omega arith }; all = omega arith; fits = omega arith };
      walks = λ older keeps. rw (c.into_iter-rest.ensures.rest, c.new-2.ensures) (walks_first c.args.message.now (after c.new.result c.args.base.now.templates) older c.args.said.items (λ q. c.new.ensures.same c.args.base.now.templates q ∙ keeps q));
    }

pub items-preserved : goal.items-preserved
items-preserved c =
    let left : into_iter_items c.items.rest ≡ c.in-Some.item ∷ into_iter_items c.next.new.self = c.in-Some.ensures.items in
    let stand : StandIn (length c.args.message.now) (c.in-Some.item ∷ into_iter_items c.next.new.self) = rw left at c.items.invariant.stand in
    let room = c.items.invariant.room in
    record {
      stand = stand.1;
      room = record { done = room.done + 1; counted = c.in_ok-read_item.ensures.counts room.done room.counted; all = omega (arith, ap length left, room.all); fits = room.fits };
      walks = λ older keeps. walks_more c.args.message.now (after c.items.state.changes c.args.base.now.templates) (after c.read_item.new.state.changes c.args.base.now.templates) c.in-Some.item (into_iter_items c.next.new.self) (contents_in c.items.state) (contents_in c.read_item.new.state) older c.args.said.items
          c.in_ok-read_item.ensures.reads c.in_ok-read_item.ensures.keeps (rw left at (c.items.invariant.walks older keeps));
    }

pub returns-in_err-read_item-clause-reads : goal.returns-in_err-read_item-clause-reads
returns-in_err-read_item-clause-reads c = λ older keeps.
    let left : into_iter_items c.items.rest ≡ c.in-Some.item ∷ into_iter_items c.next.new.self = c.in-Some.ensures.items in
    let p = err_from_is_err_and c.from_residual.result c.from_residual.ensures.1 in
    rw (p.1, p.2) (walks_fault c.args.message.now (after c.items.state.changes c.args.base.now.templates) c.in-Some.item (into_iter_items c.next.new.self) (contents_in c.items.state) older c.args.said.items c.in_err-read_item.field-0.0 c.in_err-read_item.ensures.reads (rw left at (c.items.invariant.walks older keeps)))

pub returns-clause-reads : goal.returns-clause-reads
returns-clause-reads c = λ older keeps.
    let left : into_iter_items c.items.rest ≡ [] = nil_from_length (into_iter_items c.items.rest) (omega (arith, c.in_default.ensures.cases.0)) in
    walks_read c.args.message.now (after c.items.state.changes c.args.base.now.templates) (contents_in c.items.state) older c.args.said.items (rw left at (c.items.invariant.walks older keeps))

pub returns-clause-keeps : goal.returns-clause-keeps
returns-clause-keeps c = λ older keeps.
    let left : into_iter_items c.items.rest ≡ [] = nil_from_length (into_iter_items c.items.rest) (omega (arith, c.in_default.ensures.cases.0)) in
    walks_keeps c.args.message.now (after c.items.state.changes c.args.base.now.templates) (contents_in c.items.state) older c.args.said.items (rw left at (c.items.invariant.walks older keeps))
