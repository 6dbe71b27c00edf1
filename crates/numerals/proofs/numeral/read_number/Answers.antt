use Rattle.std.proofs.Common.{◌∙◌, arith}
use Rattle.numerals.proofs.NumeralLaws.{number_of-only, if_found}
use Rattle.numerals.proofs.numeral.read_number.Goals as goal

pub returns-clause-found : goal.returns-clause-found
returns-clause-found c = if_found c.args.most c.args.word.now c.number.result (omega arith) c.number.ensures

pub returns-clause-only : goal.returns-clause-only
returns-clause-only c = λ n h. c.number.ensures ∙ number_of-only c.args.most c.args.word.now n (omega arith) h
