use Rattle.std.proofs.Common.{◌+◌, ◌-◌, ap, ◌∙◌, arith}
use Rattle.disclosure_audit.specs.Noting.{and_more, notes_of_stretch}
use Rattle.mediator_shares.proofs.SharingLaws.{on_ok_gives}
use Rattle.mediator_shares.proofs.StretchLaws.{kept_alike}
use Rattle.mediator_shares.proofs.shares.Sums.count_stretch.Goals as goal

pub returns-then-branch : goal.returns-then-branch
returns-then-branch c = on_ok_gives c.push_stretch.result c.push_stretch.ensures (λ noted.
    kept_alike c.args.self.now.tallies.items c.args.self.now.notes c.push_stretch.new.self c.args.domain c.args.in_force.now (c.args.before + c.args.from) c.args.run.now c.args.from c.args.to c.args.leaders.now c.args.served.now c.keep_back.new.kept.items
    (c.in_ok-keep_back.ensures c.if-branch.true) (omega (arith, c.requires.some)) c.requires.within c.requires.each_tally
    (noted ∙ ap (λ l. and_more c.args.self.now.notes (notes_of_stretch (c.args.before + c.args.from) (c.args.to - c.args.from) l)) c.deref.ensures.value))
