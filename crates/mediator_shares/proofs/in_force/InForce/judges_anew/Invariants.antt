use Rattle.std.proofs.Common.{◌≡◌, None, map, take}
use Rattle.mediator_shares.specs.Judges.{JudgeFor}
use Rattle.mediator_shares.specs.Sharing.{blank}
use Rattle.mediator_shares.proofs.in_force.InForce.judges_anew.Given as goal

abbrev pub invariant-served : goal.invariant-served
invariant-served l = JudgeFor l.judges l.self l.domain None (take l.who-index l.served) × (l.judges.rules ≡ l.self.policy.rules) × (l.judges.domain ≡ l.domain) × (l.judges.shares ≡ map blank (take l.who-index l.served))
