use Rattle.std.proofs.Common.{◌≡◌, rules}
use Rattle.history_verify.specs.Parts.{live_number}
use Rattle.history_verify.proofs.BeginLaws.{live_by_name}
use Rattle.history_verify.proofs.subscribers.Subscribers.is_live.Goals as goal

pub returns-in-Some : goal.returns-in-Some
returns-in-Some c =
    let found : c.copied.result ≡ live_number c.args.self.now c.in-Some.name.now = search rules in
    λ h so. live_by_name c.args.self.now h c.args.sub c.in-Some.name.now c.copied.result c.eq.result so (c.in-Some.ensures.some h so).0 found c.eq.ensures
