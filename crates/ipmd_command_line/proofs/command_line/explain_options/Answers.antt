use Rattle.std.proofs.Common.{rules, codes, Some, ◌∙◌, refl}
use Rattle.std.specs.Str.Parse.{ParsesUnsigned, ExplainsUnsignedError, HasUnsignedDigitsIfOk}
use Rattle.ipmd_command_line.proofs.GivenRows.{given_row, given_value, number_read, number_row}
use Rattle.ipmd_command_line.proofs.command_line.explain_options.Goals as goal

pub returns : goal.returns
returns c = record {
  found = record {
    journal = given_row c.args.chosen.now (codes "journal") c.get_str.result (Some c.in_ok-get_str.field-0) c.get_str.ensures (search rules);
    sub = number_row (λ bs r. ParsesUnsigned 64 10 bs r × ExplainsUnsignedError 10 bs r × HasUnsignedDigitsIfOk bs r) 64 c.args.chosen.now (codes "sub") c.get_one.result c.in_ok-get_one.field-0 (λ t r g. g.0)
        c.get_one.ensures.none c.get_one.ensures.value (search rules);
    position = c.in_ok-position_of.ensures.found;
    index = c.in_ok-index_of.ensures.found;
  };
  only = λ options are. refl;
}

pub returns-in_err-get_str-clause-only : goal.returns-in_err-get_str-clause-only
returns-in_err-get_str-clause-only c = λ options are. absurd (given_value c.args.chosen.now (codes "journal") c.get_str.result options.journal.now c.get_str.ensures are.journal (search rules))

pub returns-in_err-get_one-clause-only : goal.returns-in_err-get_one-clause-only
returns-in_err-get_one-clause-only c = λ options are. absurd (number_read (λ bs r. ParsesUnsigned 64 10 bs r × ExplainsUnsignedError 10 bs r × HasUnsignedDigitsIfOk bs r) 64 c.args.chosen.now (codes "sub")
    c.get_one.result options.sub (λ t r g. g.0) c.get_one.ensures.value are.sub (search rules))
