use Rattle.std.proofs.Common.{rules, codes, Some, None}
use Rattle.clap.specs.Words.{found_of, rows_of}
use Rattle.ipmd_command_line.proofs.GivenRows.{both_given, given_row, none_given}
use Rattle.ipmd_command_line.proofs.command_line.policy_source.Goals as goal

pub returns-in-Some-None : goal.returns-in-Some-None
returns-in-Some-None c = record {
  found = (
    given_row c.args.chosen.now (codes "policy") c.get_str.result (Some c.in-Some-None.path) c.get_str.ensures c.in-Some-None.is-0,
    given_row c.args.chosen.now (codes "policy-text") c.get_str-2.result None c.get_str-2.ensures c.in-Some-None.is-1,
  );
  only = λ source is. search rules;
}

pub returns-in-None-Some : goal.returns-in-None-Some
returns-in-None-Some c = record {
  found = (
    given_row c.args.chosen.now (codes "policy") c.get_str.result None c.get_str.ensures c.in-None-Some.is-0,
    given_row c.args.chosen.now (codes "policy-text") c.get_str-2.result (Some c.in-None-Some.text) c.get_str-2.ensures c.in-None-Some.is-1,
  );
  only = λ source is. search rules;
}

pub returns-in-Some-Some-clause-only : goal.returns-in-Some-Some-clause-only
returns-in-Some-Some-clause-only c = λ source is. absurd (both_given (rows_of (found_of c.args.chosen.now)) _ _
    (given_row c.args.chosen.now (codes "policy") c.get_str.result (Some c.in-Some-Some.field-0-0) c.get_str.ensures c.in-Some-Some.is-0)
    (given_row c.args.chosen.now (codes "policy-text") c.get_str-2.result (Some c.in-Some-Some.field-0-1) c.get_str-2.ensures c.in-Some-Some.is-1) source is)

pub returns-in-None-None-clause-only : goal.returns-in-None-None-clause-only
returns-in-None-None-clause-only c = λ source is. absurd (none_given (rows_of (found_of c.args.chosen.now))
    (given_row c.args.chosen.now (codes "policy") c.get_str.result None c.get_str.ensures c.in-None-None.is-0)
    (given_row c.args.chosen.now (codes "policy-text") c.get_str-2.result None c.get_str-2.ensures c.in-None-None.is-1) source is)
