use Rattle.std.proofs.Common.{rules, ap, sym, subst, ◌∙◌, ◌++◌, map}
use Rattle.std.specs.Map.{keys_of}
use Rattle.flow_aggregate.specs.Running.{HeldGroups, SumsStand}
use Rattle.flow_aggregate.specs.Additions.{AreReadyToAdd}
use Rattle.flow_aggregate.specs.Counts.{count_of}
use Rattle.mediator_tables.specs.GroupTable.{held_at, IsHeldAt}
use Rattle.mediator_tables.proofs.AddingLaws.{nothing_ready, nothing_counted, none_added_where, some_added}
use Rattle.mediator_tables.proofs.GroupTableLaws.{Table, at_table, held_before, held_after, others_held, keys_written, once_written, nowhere}
use Rattle.mediator_tables.proofs.groups.RunningGroups.add_one.Goals.{in-Some, in_default}
use Rattle.mediator_tables.proofs.groups.RunningGroups.add_one.Goals as goal

pub invariant_of-self : goal.invariant_of-self
invariant_of-self c = elim c.match-get_index_mut.branch [
  | in-Some w ↦ rw w.self-inside-is (once_written c.self.inside.by_number.entries c.args.reserved.place w.add_reserved.new.self c.self.invariant)
  | in_default w ↦ rw w.self-inside-is c.self.invariant
]

pub add_reserved-requires : goal.add_reserved-requires
add_reserved-requires c = (
  c.requires.1,
  subst (λ (h : HeldGroups). AreReadyToAdd h c.args.reserved.additions.items c.requires.1)
      (held_before c.args.self.now c.self.inside.by_number.entries c.args.reserved.place c.requires.0 c.in-Some.groups.now c.in-Some.groups.now c.self.view_is (c.requires.2.0 (some_added c.args.reserved.additions.items (search rules))) c.self.invariant (search rules)) c.requires.2.1,
)

pub returns-clause-adds : goal.returns-clause-adds
returns-clause-adds c sub before more ready stands =
    let at : IsHeldAt c.args.self.now c.args.reserved.place sub = ready.0 (some_added c.args.reserved.additions.items (search rules)) in
    elim c.match-get_index_mut.branch [
      | in-Some w ↦ rw w.self-inside-is
          (let was = held_before c.args.self.now c.self.inside.by_number.entries c.args.reserved.place sub w.in-Some.groups.now w.add_reserved.new.self c.self.view_is at c.self.invariant (search rules) in
          subst (λ (h : HeldGroups). SumsStand h.groups (before ++ more))
          (sym (held_after c.args.self.now c.self.inside.by_number.entries c.args.reserved.place sub w.in-Some.groups.now w.add_reserved.new.self c.self.view_is at c.self.invariant (search rules)))
          (w.add_reserved.ensures.adds before more (subst (λ (h : HeldGroups). SumsStand h.groups before) was stands) (subst (λ (h : HeldGroups). AreReadyToAdd h c.args.reserved.additions.items (map count_of more)) was ready.1)))
      | in_default w ↦ absurd (nowhere c.self.inside.by_number.entries c.args.reserved.place sub (search rules) (at_table c.args.self.now c.self.inside.by_number.entries c.args.reserved.place sub c.self.view_is at))
    ]

pub returns-clause-ready : goal.returns-clause-ready
returns-clause-ready c sub counts ready =
    let at : IsHeldAt c.args.self.now c.args.reserved.place sub = ready.0 (some_added c.args.reserved.additions.items (search rules)) in
    elim c.match-get_index_mut.branch [
      | in-Some w ↦ rw w.self-inside-is
          (ap (λ (h : HeldGroups). h.ready) (held_after c.args.self.now c.self.inside.by_number.entries c.args.reserved.place sub w.in-Some.groups.now w.add_reserved.new.self c.self.view_is at c.self.invariant (search rules))
          ∙ w.add_reserved.ensures.ready)
      | in_default w ↦ absurd (nowhere c.self.inside.by_number.entries c.args.reserved.place sub (search rules) (at_table c.args.self.now c.self.inside.by_number.entries c.args.reserved.place sub c.self.view_is at))
    ]

pub returns-clause-others : goal.returns-clause-others
returns-clause-others c sub q counts ready other =
    let at : IsHeldAt c.args.self.now c.args.reserved.place sub = ready.0 (some_added c.args.reserved.additions.items (search rules)) in
    elim c.match-get_index_mut.branch [
      | in-Some w ↦ rw w.self-inside-is
          (others_held c.args.self.now c.self.inside.by_number.entries c.args.reserved.place sub w.in-Some.groups.now w.add_reserved.new.self c.self.view_is at c.self.invariant (search rules) q other)
      | in_default w ↦ rw w.self-inside-is (ap (λ (es : Table). held_at es q) c.self.view_is)
    ]

pub returns-clause-places : goal.returns-clause-places
returns-clause-places c = elim c.match-get_index_mut.branch [
  | in-Some w ↦ rw w.self-inside-is (keys_written c.self.inside.by_number.entries c.args.reserved.place w.add_reserved.new.self ∙ ap (λ (es : Table). keys_of es) c.self.view_is)
  | in_default w ↦ rw w.self-inside-is (ap (λ (es : Table). keys_of es) c.self.view_is)
]

pub returns-then-is_empty-clause-adds : goal.returns-then-is_empty-clause-adds
returns-then-is_empty-clause-adds c sub before more ready stands =
    nothing_counted (held_at c.args.self.now sub) c.args.reserved.additions.items before more (none_added_where c.args.reserved.additions.items (search rules)) ready.1 stands

pub returns-then-is_empty-clause-ready : goal.returns-then-is_empty-clause-ready
returns-then-is_empty-clause-ready c sub counts ready =
    nothing_ready (held_at c.args.self.now sub) c.args.reserved.additions.items counts (none_added_where c.args.reserved.additions.items (search rules)) ready.1
