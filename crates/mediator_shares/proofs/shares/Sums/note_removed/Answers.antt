use Rattle.std.proofs.Common.{length, sym, ◌∙◌}
use Rattle.std.proofs.lemmas.Bool.{ltb-false}
use Rattle.mediator_shares.proofs.SharingLaws.{on_ok_gives, counted_removed}
use Rattle.mediator_shares.proofs.shares.Sums.note_removed.Goals as goal

pub count_one-requires : goal.count_one-requires
count_one-requires c = ltb-false (length c.args.self.now.notes.notes) c.args.self.now.notes.most (sym c.keeps_next.ensures ∙ c.if-not-keeps_next.true)

pub returns-then-not-keeps_next-clause-notes : goal.returns-then-not-keeps_next-clause-notes
returns-then-not-keeps_next-clause-notes c = on_ok_gives c.count_one.result c.count_one.ensures
    (λ is. is ∙ sym (counted_removed c.args.self.now.notes c.args.index c.args.sub c.args.removed.now (sym c.is_empty.ensures ∙ c.if-is_empty.false)
    (ltb-false (length c.args.self.now.notes.notes) c.args.self.now.notes.most (sym c.keeps_next.ensures ∙ c.if-not-keeps_next.true))))
