use Rattle.std.proofs.Common.{append_assoc}
use Rattle.disclosure_audit.proofs.lines.put_what.Goals as goal

pub returns-in_ok-push_str-in-Aggregated : goal.returns-in_ok-push_str-in-Aggregated
returns-in_ok-push_str-in-Aggregated c =
    rw c.in-Aggregated.is (rw (c.from-in-Aggregated.ensures, c.in_ok-push_str-in-Aggregated.ensures.bytes, append_assoc) at c.put_number-in-Aggregated.ensures)
