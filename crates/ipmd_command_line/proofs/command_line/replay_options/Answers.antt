use Rattle.std.proofs.Common.{rules, codes, Some, ◌∙◌, refl}
use Rattle.ipmd_command_line.proofs.GivenRows.{given_row, given_value}
use Rattle.ipmd_command_line.proofs.command_line.replay_options.Goals as goal

pub returns : goal.returns
returns c = record {
  found = record {
    calls = given_row c.args.chosen.now (codes "calls") c.get_str.result (Some c.in_ok-get_str.field-0) c.get_str.ensures (search rules);
    journal = given_row c.args.chosen.now (codes "journal") c.get_str-2.result c.get_str-2.result c.get_str-2.ensures refl;
  };
  only = λ options are. refl;
}

pub returns-in_err-get_str-clause-only : goal.returns-in_err-get_str-clause-only
returns-in_err-get_str-clause-only c = λ options are. absurd (given_value c.args.chosen.now (codes "calls") c.get_str.result options.calls.now c.get_str.ensures are.calls (search rules))
