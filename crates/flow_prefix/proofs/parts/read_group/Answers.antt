use Rattle.numerals.proofs.NumeralLaws.{if_bounded}
use Rattle.flow_prefix.proofs.parts.read_group.Goals as goal

pub returns-clause-bound : goal.returns-clause-bound
returns-clause-bound c = if_bounded 16 65535 c.args.word.now c.read_digits.result c.read_digits.ensures
