use Rattle.std.proofs.Common.{rules, ◌≡◌, arith, length}
use Rattle.shared_mediator.proofs.ClosingLaws.{entries_add_up, none_left}
use Rattle.shared_mediator.proofs.closing.joined_entries.Goals as goal

pub returns-clause-amount : goal.returns-clause-amount
returns-clause-amount g c =
    let left : length c.loop-admin.admin-iterator.rest.items ≡ 0 = search rules in
    omega (arith, c.loop-admin.invariant.1, none_left c.loop-admin.admin-iterator.rest.items left, entries_add_up c.args.exporters.items c.args.admins.items)
