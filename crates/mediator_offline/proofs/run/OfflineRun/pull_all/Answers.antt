use Rattle.std.proofs.Common.{length, take, refl, ap, ◌∙◌, ◌≡◌, arith}
use Rattle.mediator_offline.proofs.run.OfflineRun.pull_all.Goals as goal

pub returns-in-Err-clause-unchanged : goal.returns-in-Err-clause-unchanged
returns-in-Err-clause-unchanged g c =
    let long : c.len-before.result ≡ length c.args.gathered.now.items = omega (arith, c.len-before.ensures, c.args.gathered.now.ok.0) in
    (c.truncate.ensures.items ∙ ap (λ n. take n c.pull_each.new.gathered.items) long ∙ c.pull_each.ensures.front, refl)
