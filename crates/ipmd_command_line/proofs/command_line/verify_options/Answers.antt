use Rattle.std.proofs.Common.{rules, codes, Some, ◌∙◌, refl}
use Rattle.ipmd_command_line.proofs.GivenRows.{given_row, given_value, one_row}
use Rattle.ipmd_command_line.proofs.command_line.verify_options.Goals as goal

pub returns : goal.returns
returns c = record {
  found = record {
    journal = given_row c.args.chosen.now (codes "journal") c.get_str.result (Some c.in_ok-get_str.field-0) c.get_str.ensures (search rules);
    quiet = record {
      given = λ is. c.get_flag.ensures.value (one_row c.args.chosen.now (codes "quiet") ∙ is);
      absent = λ is. c.get_flag.ensures.other (one_row c.args.chosen.now (codes "quiet") ∙ is);
    };
  };
  only = λ options are. refl;
}

pub returns-in_err-get_str-clause-only : goal.returns-in_err-get_str-clause-only
returns-in_err-get_str-clause-only c = λ options are. absurd (given_value c.args.chosen.now (codes "journal") c.get_str.result options.journal.now c.get_str.ensures are.journal (search rules))
