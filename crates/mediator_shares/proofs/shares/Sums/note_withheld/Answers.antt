use Rattle.std.proofs.Common.{length, sym, ◌∙◌}
use Rattle.std.proofs.lemmas.Bool.{ltb-false}
use Rattle.disclosure_audit.specs.declared.entry.What.TheVariants.{Withheld}
use Rattle.disclosure_audit.proofs.NotingLaws.{counted_more}
use Rattle.mediator_shares.specs.Sharing.{note_of}
use Rattle.mediator_shares.proofs.SharingLaws.{on_ok_gives}
use Rattle.mediator_shares.proofs.shares.Sums.note_withheld.Goals as goal

pub count_one-requires : goal.count_one-requires
count_one-requires c = ltb-false (length c.args.self.now.notes.notes) c.args.self.now.notes.most (sym c.keeps_next.ensures ∙ c.if-not-keeps_next.true)

pub returns-then-not-keeps_next-clause-notes : goal.returns-then-not-keeps_next-clause-notes
returns-then-not-keeps_next-clause-notes c = on_ok_gives c.count_one.result c.count_one.ensures
    (λ is. is ∙ sym (counted_more c.args.self.now.notes (note_of c.args.index c.args.sub (Withheld c.args.rule c.args.reason))
    (ltb-false (length c.args.self.now.notes.notes) c.args.self.now.notes.most (sym c.keeps_next.ensures ∙ c.if-not-keeps_next.true))))
