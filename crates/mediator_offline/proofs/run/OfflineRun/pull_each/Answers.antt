use Rattle.std.proofs.Common.{◌∙◌, ap, length, take, Some}
use Rattle.mediator_offline.proofs.Delivering.{turn, turn_ends, turn_fits, turn_smaller, turn_serves, pulled_some, pulled_none, front_stays}
use Rattle.mediator_offline.proofs.run.OfflineRun.pull_each.Goals as goal

pub returns-then-not-is_there-clause-ok : goal.returns-then-not-is_there-clause-ok
returns-then-not-is_there-clause-ok g c = turn_ends c.args.self.now c.pulls.self c.pull.new.self _ _ c.pulls.invariant (pulled_none c.pulls.self c.pull.new.self c.in_ok-is_there.is_there c.pull.new.self.message.items c.if-not-is_there.true (record { same = c.in_ok-is_there.ensures.same; sent = c.in_ok-is_there.ensures.sent; audit = c.in_ok-is_there.ensures.audit; pulls = c.in_ok-is_there.ensures.ok; below = c.in_ok-is_there.ensures.below }))

pub gather-requires : goal.gather-requires
gather-requires g c = record { fits = turn_fits c.args.self.now c.pulls.self c.pull.new.self _ _ c.pull.new.self.message.items c.requires.delivering c.pulls.invariant (pulled_some c.pulls.self c.pull.new.self c.in_ok-is_there.is_there c.pull.new.self.message.items c.if-not-is_there.false (record { same = c.in_ok-is_there.ensures.same; sent = c.in_ok-is_there.ensures.sent; audit = c.in_ok-is_there.ensures.audit; pulls = c.in_ok-is_there.ensures.ok; below = c.in_ok-is_there.ensures.below })) }

pub pulls-smaller : goal.pulls-smaller
pulls-smaller g c = turn_smaller c.args.self.now c.pulls.self c.pull.new.self c.gather.new.self _ _ c.pull.new.self.message.items c.requires.delivering c.pulls.invariant (pulled_some c.pulls.self c.pull.new.self c.in_ok-is_there.is_there c.pull.new.self.message.items c.if-not-is_there.false (record { same = c.in_ok-is_there.ensures.same; sent = c.in_ok-is_there.ensures.sent; audit = c.in_ok-is_there.ensures.audit; pulls = c.in_ok-is_there.ensures.ok; below = c.in_ok-is_there.ensures.below })) c.in_ok-gather.ensures.state

pub pulls-preserved : goal.pulls-preserved
pulls-preserved g c = turn c.args.self.now c.pulls.self c.pull.new.self c.gather.new.self _ _ _ c.pull.new.self.message.items c.pulls.invariant (pulled_some c.pulls.self c.pull.new.self c.in_ok-is_there.is_there c.pull.new.self.message.items c.if-not-is_there.false (record { same = c.in_ok-is_there.ensures.same; sent = c.in_ok-is_there.ensures.sent; audit = c.in_ok-is_there.ensures.audit; pulls = c.in_ok-is_there.ensures.ok; below = c.in_ok-is_there.ensures.below })) c.in_ok-gather.ensures.same c.in_ok-gather.ensures.state c.in_ok-gather.ensures.ok c.in_ok-gather.ensures.sent

pub pull-requires : goal.pull-requires
pull-requires g c = record { serving = turn_serves c.args.self.now c.pulls.self (Some c.args.gathered.now.items) (Some c.pulls.gathered.items) c.requires.delivering c.pulls.invariant }

pub returns-then-not-is_there-clause-front : goal.returns-then-not-is_there-clause-front
returns-then-not-is_there-clause-front g c = front_stays c.args.self.now c.pulls.self c.args.gathered.now.items c.pulls.gathered.items c.pulls.invariant

pub returns-in_err-is_there-clause-front : goal.returns-in_err-is_there-clause-front
returns-in_err-is_there-clause-front g c = front_stays c.args.self.now c.pulls.self c.args.gathered.now.items c.pulls.gathered.items c.pulls.invariant

pub returns-in_err-gather-clause-front : goal.returns-in_err-gather-clause-front
returns-in_err-gather-clause-front g c = ap (take (length c.args.gathered.now.items)) c.in_err-gather.ensures.unchanged ∙ front_stays c.args.self.now c.pulls.self c.args.gathered.now.items c.pulls.gathered.items c.pulls.invariant

pub returns-then-not-is_there-clause-job : goal.returns-then-not-is_there-clause-job
returns-then-not-is_there-clause-job g c = c.pull.ensures.same.job ∙ c.pulls.invariant.job

pub returns-in_err-is_there-clause-job : goal.returns-in_err-is_there-clause-job
returns-in_err-is_there-clause-job g c = c.pull.ensures.same.job ∙ c.pulls.invariant.job

pub returns-in_err-gather-clause-job : goal.returns-in_err-gather-clause-job
returns-in_err-gather-clause-job g c = c.gather.ensures.same.job ∙ c.pull.ensures.same.job ∙ c.pulls.invariant.job
