use Rattle.std.proofs.Common.{◌-◌, refl}
use Rattle.rule_table.proofs.HeadLaws.{units_fit, heads_by}
use Rattle.rule_table.proofs.heads.Heads.of.Goals as goal

pub starts_of-requires-clause-unit : goal.starts_of-requires-clause-unit
starts_of-requires-clause-unit c = units_fit c.args.width c.args.bits c.requires.bits.1 c.requires.width.0 c.requires.width.1 c.requires.bits.0

pub returns : goal.returns
returns c =
    heads_by c.args.cuts.now c.args.width c.args.bits (record { shift = c.args.width - c.args.bits; starts = c.in_ok-starts.starts })
    c.requires.bits.0 c.requires.bits.1 c.requires.width.0 c.requires.width.1 refl c.in_ok-starts.ensures
