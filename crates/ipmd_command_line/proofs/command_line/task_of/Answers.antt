use Rattle.std.proofs.Common.{rules, codes, Option, Some, ◌≡◌}
use Rattle.clap.specs.Words.{found_of, rows_of, subcommand_rows_of}
use Rattle.ipmd_command_line.proofs.GivenRows.{explain_refused}
use Rattle.ipmd_command_line.proofs.command_line.task_of.Goals as goal

pub returns-in_err-explain_options-in-explain-default-clause-only : goal.returns-in_err-explain_options-in-explain-default-clause-only
returns-in_err-explain_options-in-explain-default-clause-only c =
    let name : c.in_ok-chosen.field-0.0.now ≡ codes "explain" = search rules in
    λ task is. absurd (explain_refused (subcommand_rows_of c.args.matches.now) c.in_ok-chosen.field-0.0.now (rows_of (found_of c.in_ok-chosen.field-0.1.now)) c.explain_options.result
    (search rules) name (search rules) c.explain_options.ensures.only task is)
