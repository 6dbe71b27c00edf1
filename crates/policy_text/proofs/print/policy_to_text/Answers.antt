use Rattle.policy_text.proofs.PrintLaws.{policy_rows}
use Rattle.policy_text.proofs.print.policy_to_text.Goals as goal

pub returns : goal.returns
returns c =
    rw (c.in_ok-put_rules.ensures, c.in_ok-put_aggregates.ensures, c.in_ok-put_header.ensures, c.version.ensures, c.new-text.ensures.bytes, c.rules.ensures.value, c.aggregates.ensures, c.aggregates-2.ensures)
    (policy_rows c.args.policy.now)
