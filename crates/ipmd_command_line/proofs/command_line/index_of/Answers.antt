use Rattle.std.proofs.Common.{rules, codes, refl, Some, None, ◌∙◌}
use Rattle.std.specs.Str.Parse.{ParsesUnsigned, ExplainsUnsignedError, HasUnsignedDigitsIfOk}
use Rattle.ipmd_command_line.proofs.GivenRows.{given_row, maybe_missed, number_read, number_row}
use Rattle.ipmd_command_line.proofs.command_line.index_of.Goals as goal

pub returns-in_err-get_one-in-Some-clause-only : goal.returns-in_err-get_one-in-Some-clause-only
returns-in_err-get_one-in-Some-clause-only c = λ index is. absurd (maybe_missed 32 c.args.chosen.now (codes "index") c.get_str.result _ c.get_str.ensures c.in-Some.is
    (λ n so. number_read (λ bs r. ParsesUnsigned 32 10 bs r × ExplainsUnsignedError 10 bs r × HasUnsignedDigitsIfOk bs r) 32 c.args.chosen.now (codes "index")
    c.get_one.result n (λ t r g. g.0) c.get_one.ensures.value so (search rules)) index is)

pub returns-in_ok-get_one-in-Some-clause-found : goal.returns-in_ok-get_one-in-Some-clause-found
returns-in_ok-get_one-in-Some-clause-found c =
    number_row (λ bs r. ParsesUnsigned 32 10 bs r × ExplainsUnsignedError 10 bs r × HasUnsignedDigitsIfOk bs r) 32 c.args.chosen.now (codes "index") c.get_one.result c.in_ok-get_one-in-Some.field-0 (λ t r g. g.0)
    c.get_one.ensures.none c.get_one.ensures.value (search rules)

pub returns-in-None-clause-found : goal.returns-in-None-clause-found
returns-in-None-clause-found c = given_row c.args.chosen.now (codes "index") c.get_str.result None c.get_str.ensures c.in-None.is
