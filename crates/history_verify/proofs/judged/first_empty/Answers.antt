use Rattle.std.proofs.Common.{sym, ◌∙◌, arith}
use Rattle.history_verify.proofs.EmptyShares.{one_is_empty}
use Rattle.history_verify.proofs.judged.first_empty.Goals as goal

pub returns-then-is_empty : goal.returns-then-is_empty
returns-then-is_empty c =
    one_is_empty c.args.shares.now c.shares.place c.index-shares-place.result _ (omega (arith, c.shares-test.true)) c.index-shares-place.is (sym c.is_empty.ensures ∙ c.if-is_empty.true) c.shares.invariant
