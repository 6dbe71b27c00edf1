use Rattle.std.proofs.Common.{rules, codes, Some, ◌∙◌, refl}
use Rattle.std.specs.Str.Parse.{ParsesUnsigned, ExplainsUnsignedError, HasUnsignedDigitsIfOk}
use Rattle.ipmd_command_line.proofs.GivenRows.{given_row, given_value, number_read, number_row, one_row}
use Rattle.ipmd_command_line.proofs.command_line.offline_options.Goals as goal

pub returns : goal.returns
returns c = record {
  found = record {
    policy = c.in_ok-policy_source.ensures.found;
    subscriber = given_row c.args.chosen.now (codes "subscriber") c.get_str.result (Some c.in_ok-get_str.field-0) c.get_str.ensures (search rules);
    now = number_row (λ bs r. ParsesUnsigned 32 10 bs r × ExplainsUnsignedError 10 bs r × HasUnsignedDigitsIfOk bs r) 32 c.args.chosen.now (codes "now") c.get_one.result c.in_ok-get_one.field-0 (λ t r g. g.0)
        c.get_one.ensures.none c.get_one.ensures.value (search rules);
    target = number_row (λ bs r. ParsesUnsigned 16 10 bs r × ExplainsUnsignedError 10 bs r × HasUnsignedDigitsIfOk bs r) 16 c.args.chosen.now (codes "target") c.get_one-2.result c.in_ok-get_one-2.field-0 (λ t r g. g.0)
        c.get_one-2.ensures.none c.get_one-2.ensures.value (search rules);
    audit = given_row c.args.chosen.now (codes "audit") c.get_str-2.result c.get_str-2.result c.get_str-2.ensures refl;
    hex = record {
      given = λ is. c.get_flag.ensures.value (one_row c.args.chosen.now (codes "hex") ∙ is);
      absent = λ is. c.get_flag.ensures.other (one_row c.args.chosen.now (codes "hex") ∙ is);
    };
  };
  only = λ options are. refl;
}

pub returns-in_err-get_str-clause-only : goal.returns-in_err-get_str-clause-only
returns-in_err-get_str-clause-only c = λ options are. absurd (given_value c.args.chosen.now (codes "subscriber") c.get_str.result options.subscriber.now c.get_str.ensures are.subscriber (search rules))

pub returns-in_err-get_one-clause-only : goal.returns-in_err-get_one-clause-only
returns-in_err-get_one-clause-only c = λ options are. absurd (number_read (λ bs r. ParsesUnsigned 32 10 bs r × ExplainsUnsignedError 10 bs r × HasUnsignedDigitsIfOk bs r) 32 c.args.chosen.now (codes "now")
    c.get_one.result options.now (λ t r g. g.0) c.get_one.ensures.value are.now (search rules))

pub returns-in_err-get_one-2-clause-only : goal.returns-in_err-get_one-2-clause-only
returns-in_err-get_one-2-clause-only c = λ options are. absurd (number_read (λ bs r. ParsesUnsigned 16 10 bs r × ExplainsUnsignedError 10 bs r × HasUnsignedDigitsIfOk bs r) 16 c.args.chosen.now (codes "target")
    c.get_one-2.result options.target (λ t r g. g.0) c.get_one-2.ensures.value are.target (search rules))
