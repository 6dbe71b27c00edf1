use Rattle.std.proofs.Common.{◌∙◌, [], ◌∷◌, ◌++◌, refl, ap}
use Rattle.history_verify.proofs.StepLaws.{stands_cut}
use Rattle.history_verify.proofs.replay.Replay.cut.Goals as goal

pub returns-clause-ok : goal.returns-clause-ok
returns-clause-ok c = λ h s may. stands_cut c.args.self.now _ h c.args.sub s may (c.push_reserved.ensures.items ∙ ap (λ t. t ++ c.args.sub ∷ []) c.reserve.ensures.items) (λ list noted. c.push.ensures.more list (c.reserve-2.ensures.unchanged list noted))
    refl refl refl refl (c.cut.ensures h s.over.subscribers)
