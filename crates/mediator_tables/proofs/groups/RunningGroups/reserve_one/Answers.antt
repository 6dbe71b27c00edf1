use Rattle.std.proofs.Common.{rules, ap, sym, subst, ◌∙◌, ◌≤◌, length, List}
use Rattle.flow_aggregate.specs.Running.{HeldGroups}
use Rattle.flow_aggregate.specs.Counts.{Count}
use Rattle.flow_aggregate.specs.Additions.{AreReadyToAdd}
use Rattle.mediator_tables.proofs.GroupTableLaws.{at_table, held_after, others_held, places_held, groups_held, once_written, nowhere}
use Rattle.mediator_tables.proofs.groups.RunningGroups.reserve_one.Goals as goal

pub invariant_of-self : goal.invariant_of-self
invariant_of-self c = once_written c.self-2.inside.by_number.entries c.in_ok-place.place c.reserve.new.self c.self-2.invariant

pub invariant_of-self-2 : goal.invariant_of-self-2
invariant_of-self-2 c = once_written c.self-2.inside.by_number.entries c.in_ok-place.place c.reserve.new.self c.self-2.invariant

pub returns-in_err-additions-in-Some-clause-unchanged : goal.returns-in_err-additions-in-Some-clause-unchanged
returns-in_err-additions-in-Some-clause-unchanged c q =
    groups_held c.place_of.new.self c.self-2.inside.by_number.entries c.in_ok-place.place c.args.tally.now.sub c.in-Some.groups.now c.reserve.new.self c.self-2.view_is c.in_ok-place.ensures.ok c.self-2.invariant (search rules) c.reserve.ensures.unchanged q
    ∙ ap (λ (h : HeldGroups). h.groups) (c.in_ok-place.ensures.unchanged q)

pub returns-in_err-additions-in-Some-clause-few : goal.returns-in_err-additions-in-Some-clause-few
returns-in_err-additions-in-Some-clause-few c =
    subst (λ (h : HeldGroups). length h.ready ≤ length c.args.tally.now.counts.items) (sym (held_after c.place_of.new.self c.self-2.inside.by_number.entries c.in_ok-place.place c.args.tally.now.sub c.in-Some.groups.now c.reserve.new.self c.self-2.view_is c.in_ok-place.ensures.ok c.self-2.invariant (search rules)))
    (subst (λ (counts : List Count). length c.reserve.new.self.ready ≤ length counts) c.deref.ensures.value c.reserve.ensures.few)

pub returns-in_err-additions-in-Some-clause-others : goal.returns-in_err-additions-in-Some-clause-others
returns-in_err-additions-in-Some-clause-others c q other =
    others_held c.place_of.new.self c.self-2.inside.by_number.entries c.in_ok-place.place c.args.tally.now.sub c.in-Some.groups.now c.reserve.new.self c.self-2.view_is c.in_ok-place.ensures.ok c.self-2.invariant (search rules) q other
    ∙ c.in_ok-place.ensures.unchanged q

pub returns-in_err-additions-in-Some-clause-places : goal.returns-in_err-additions-in-Some-clause-places
returns-in_err-additions-in-Some-clause-places c place q at =
    places_held c.place_of.new.self c.self-2.inside.by_number.entries c.in_ok-place.place c.args.tally.now.sub c.in-Some.groups.now c.reserve.new.self c.self-2.view_is c.in_ok-place.ensures.ok c.self-2.invariant (search rules) place q
    (c.in_ok-place.ensures.places place q at)

pub unreachable-requires : goal.unreachable-requires
unreachable-requires c =
    nowhere c.self-2.inside.by_number.entries c.in_ok-place.place c.args.tally.now.sub (search rules)
    (at_table c.place_of.new.self c.self-2.inside.by_number.entries c.in_ok-place.place c.args.tally.now.sub c.self-2.view_is c.in_ok-place.ensures.ok)

pub returns-clause-unchanged : goal.returns-clause-unchanged
returns-clause-unchanged c q =
    groups_held c.place_of.new.self c.self-2.inside.by_number.entries c.in_ok-place.place c.args.tally.now.sub c.in-Some.groups.now c.reserve.new.self c.self-2.view_is c.in_ok-place.ensures.ok c.self-2.invariant (search rules) c.reserve.ensures.unchanged q
    ∙ ap (λ (h : HeldGroups). h.groups) (c.in_ok-place.ensures.unchanged q)

pub returns-clause-few : goal.returns-clause-few
returns-clause-few c =
    subst (λ (h : HeldGroups). length h.ready ≤ length c.args.tally.now.counts.items) (sym (held_after c.place_of.new.self c.self-2.inside.by_number.entries c.in_ok-place.place c.args.tally.now.sub c.in-Some.groups.now c.reserve.new.self c.self-2.view_is c.in_ok-place.ensures.ok c.self-2.invariant (search rules)))
    (subst (λ (counts : List Count). length c.reserve.new.self.ready ≤ length counts) c.deref.ensures.value c.reserve.ensures.few)

pub returns-clause-others : goal.returns-clause-others
returns-clause-others c q other =
    others_held c.place_of.new.self c.self-2.inside.by_number.entries c.in_ok-place.place c.args.tally.now.sub c.in-Some.groups.now c.reserve.new.self c.self-2.view_is c.in_ok-place.ensures.ok c.self-2.invariant (search rules) q other
    ∙ c.in_ok-place.ensures.unchanged q

pub returns-clause-places : goal.returns-clause-places
returns-clause-places c place q at =
    places_held c.place_of.new.self c.self-2.inside.by_number.entries c.in_ok-place.place c.args.tally.now.sub c.in-Some.groups.now c.reserve.new.self c.self-2.view_is c.in_ok-place.ensures.ok c.self-2.invariant (search rules) place q
    (c.in_ok-place.ensures.places place q at)

pub returns-clause-ok : goal.returns-clause-ok
returns-clause-ok c = (
  λ some. places_held c.place_of.new.self c.self-2.inside.by_number.entries c.in_ok-place.place c.args.tally.now.sub c.in-Some.groups.now c.reserve.new.self c.self-2.view_is c.in_ok-place.ensures.ok c.self-2.invariant (search rules) c.in_ok-place.place c.args.tally.now.sub c.in_ok-place.ensures.ok,
  subst (λ (h : HeldGroups). AreReadyToAdd h c.in_ok-additions-in-Some.additions.items c.args.tally.now.counts.items) (sym (held_after c.place_of.new.self c.self-2.inside.by_number.entries c.in_ok-place.place c.args.tally.now.sub c.in-Some.groups.now c.reserve.new.self c.self-2.view_is c.in_ok-place.ensures.ok c.self-2.invariant (search rules)))
      (subst (AreReadyToAdd c.reserve.new.self c.in_ok-additions-in-Some.additions.items) c.deref.ensures.value c.in_ok-additions-in-Some.ensures.ok),
)
