use Rattle.std.proofs.Common.{sym, ap, ◌∙◌}
use Rattle.numerals.specs.Numerals.{number_of}
use Rattle.admin_text.proofs.ArgumentLaws.{number_of-text}
use Rattle.admin_text.proofs.argument.read_number.Goals as goal

pub returns-in-Ok-clause-value : goal.returns-in-Ok-clause-value
returns-in-Ok-clause-value c = c.read_number.ensures.value ∙ ap (number_of c.args.most) c.in-Ok.ensures.cases.0

pub returns-in-Err-clause-value : goal.returns-in-Err-clause-value
returns-in-Err-clause-value c = sym (number_of-text c.args.most c.args.argument.now c.ranges.most.fits c.in-Err.ensures.cases.0)
