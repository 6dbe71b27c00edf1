use Rattle.std.proofs.Common.{rules}
use Rattle.policy_judge.specs.Occurrences.{values_of}
use Rattle.policy_judge.specs.Sides.{is_of}
use Rattle.rule_table.proofs.CoveringLaws.{narrow_read, wide_read}
use Rattle.rule_table.proofs.covering.Sorted.are_inside.Goals as goal

pub returns-in-V4 : goal.returns-in-V4
returns-in-V4 c =
    narrow_read c.args.denies c.args.prefix.now c.in-V4.net c.self.inside.count c.from-length.result c.from-address.result (values_of (is_of c.self.inside.side) c.self.inside.flow_record.now) c.args.self.now
    c.self.inside.narrow.items c.self.inside.wide.items c.deref.result.now c.are_in.result c.self.invariant c.self.view_is (search rules) c.deref.ensures.value (search rules) (search rules) c.are_in.ensures

pub returns-in-V6 : goal.returns-in-V6
returns-in-V6 c =
    wide_read c.args.denies c.args.prefix.now c.in-V6.net c.self.inside.count c.from-length-in-V6.result c.address-address.result (values_of (is_of c.self.inside.side) c.self.inside.flow_record.now) c.args.self.now
    c.self.inside.narrow.items c.self.inside.wide.items c.deref-in-V6.result.now c.are_in-in-V6.result c.self.invariant c.self.view_is (search rules) c.deref-in-V6.ensures.value (search rules) (search rules) c.are_in-in-V6.ensures
