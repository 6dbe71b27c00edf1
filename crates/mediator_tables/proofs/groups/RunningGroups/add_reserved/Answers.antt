use Rattle.std.proofs.Common.{map, ap, arith, sym}
use Rattle.std.proofs.lemmas.List.{nil_from_length}
use Rattle.std.specs.Vec.Iter.{into_iter_items}
use Rattle.mediator_tables.specs.Adding.{reserved_for}
use Rattle.mediator_tables.proofs.AddingLaws.{same_places, counting_start, counts_next, counting_next, all_added, all_spent, others_kept}
use Rattle.mediator_tables.proofs.groups.RunningGroups.add_reserved.Goals as goal

pub reserved-init : goal.reserved-init
reserved-init c =
    counting_start c.args.self.now (map reserved_for c.args.reserved.items) (map reserved_for (into_iter_items c.into_iter-one-iterator.result)) (ap (map reserved_for) (sym c.into_iter-one-iterator.ensures.into_iter_gives.0))

pub add_one-requires : goal.add_one-requires
add_one-requires c =
    counts_next c.args.self.now c.reserved.self (map reserved_for c.args.reserved.items) (map reserved_for (into_iter_items c.reserved.one-iterator)) (map reserved_for (into_iter_items c.next.new.self))
    (reserved_for c.in-Some.one) (ap (map reserved_for) c.in-Some.ensures.steps.0) c.requires c.reserved.invariant

pub reserved-preserved : goal.reserved-preserved
reserved-preserved c =
    counting_next c.args.self.now c.reserved.self c.add_one.new.self (map reserved_for c.args.reserved.items) (map reserved_for (into_iter_items c.reserved.one-iterator)) (map reserved_for (into_iter_items c.next.new.self))
    (reserved_for c.in-Some.one) (ap (map reserved_for) c.in-Some.ensures.steps.0) c.add_one.ensures.adds c.add_one.ensures.ready c.add_one.ensures.others (same_places c.reserved.self c.add_one.new.self c.add_one.ensures.places) c.reserved.invariant

pub returns-clause-adds : goal.returns-clause-adds
returns-clause-adds c =
    all_added c.args.self.now c.reserved.self (map reserved_for c.args.reserved.items) (map reserved_for (into_iter_items c.reserved.one-iterator)) c.reserved.invariant
    (ap (map reserved_for) (nil_from_length (into_iter_items c.reserved.one-iterator) (omega (arith, c.in-None.ensures.steps.0))))

pub returns-clause-ready : goal.returns-clause-ready
returns-clause-ready c =
    all_spent c.args.self.now c.reserved.self (map reserved_for c.args.reserved.items) (map reserved_for (into_iter_items c.reserved.one-iterator)) c.reserved.invariant
    (ap (map reserved_for) (nil_from_length (into_iter_items c.reserved.one-iterator) (omega (arith, c.in-None.ensures.steps.0))))

pub returns-clause-others : goal.returns-clause-others
returns-clause-others c =
    others_kept c.args.self.now c.reserved.self (map reserved_for c.args.reserved.items) (map reserved_for (into_iter_items c.reserved.one-iterator)) c.reserved.invariant
    (ap (map reserved_for) (nil_from_length (into_iter_items c.reserved.one-iterator) (omega (arith, c.in-None.ensures.steps.0))))
