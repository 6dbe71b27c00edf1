use Rattle.std.proofs.Common.{arith}
use Rattle.mediator_shares.proofs.JudgeLaws.{given_step, given_taken, given_shares}
use Rattle.mediator_shares.proofs.judges.take_shares.Goals as goal

pub judges-preserved : goal.judges-preserved
judges-preserved c =
    given_step c.args.judges.now.items c.judges.judges.items c.judges.shares.items c.push.new.self.items c.judges.place c.index_mut.result.now c.take_share.new.self c.in_ok-share.share c.judges.invariant
    (omega (arith, c.judges-test.true, c.len-place-end.ensures, c.judges.auto.place-end, c.judges.invariant.many)) c.index_mut.ensures.value c.in_ok-share.ensures.plans c.in_ok-share.ensures.taken c.in_ok-share.ensures.share c.in_ok-push.ensures.items

pub returns-clause-shares : goal.returns-clause-shares
returns-clause-shares c = given_shares c.args.judges.now.items c.judges.judges.items c.judges.shares.items c.judges.place c.judges.invariant (omega (arith, c.judges-test.false, c.len-place-end.ensures, c.judges.auto.place-end, c.judges.invariant.many))

pub returns-clause-fors : goal.returns-clause-fors
returns-clause-fors c = c.judges.invariant.fors

pub returns-clause-taken : goal.returns-clause-taken
returns-clause-taken c = given_taken c.args.judges.now.items c.judges.judges.items c.judges.shares.items c.judges.place c.judges.invariant (omega (arith, c.judges-test.false, c.len-place-end.ensures, c.judges.auto.place-end, c.judges.invariant.many))
