use Rattle.std.proofs.Common.{sym, ◌∙◌}
use Rattle.admin_text.proofs.LineLaws.{word_memory}
use Rattle.admin_text.proofs.command.read_subscribe.Goals as goal

pub returns-in_err-name-clause-memory : goal.returns-in_err-name-clause-memory
returns-in_err-name-clause-memory c =
    word_memory c.args.argument.now c.from_residual.result (sym c.is_one_word.ensures ∙ c.if-not-is_one_word.false)
