use Rattle.std.proofs.Common.{refl}
use Rattle.std.specs.Prelude.{string_bytes, false}
use Rattle.event_journal.specs.declared.entry.Entry.TheVariants.{Cut, Unsubscribe}
use Rattle.ipmd_explain.proofs.StandingLaws.{cut_other, cut_own, ended_other, ended_own, taken_silent}
use Rattle.ipmd_explain.proofs.explainer.Explainer.end.Goals as goal

pub returns-then-sub-self-clause-ended : goal.returns-then-sub-self-clause-ended
returns-then-sub-self-clause-ended c = λ h so may. taken_silent c.args.self.now c.args.self.now c.silent.new.self h (Unsubscribe c.args.sub) (string_bytes c.silent.result) so may
    (ended_other c.args.self.now h c.args.sub so c.if-sub-self.true) c.silent.ensures.counted c.silent.ensures.text refl refl

pub returns-then-sub-self-clause-cut : goal.returns-then-sub-self-clause-cut
returns-then-sub-self-clause-cut c = λ h so may. taken_silent c.args.self.now c.args.self.now c.silent.new.self h (Cut c.args.sub) (string_bytes c.silent.result) so may
    (cut_other c.args.self.now h c.args.sub so c.if-sub-self.true) c.silent.ensures.counted c.silent.ensures.text refl refl

pub returns-clause-ended : goal.returns-clause-ended
returns-clause-ended c = λ h so may. taken_silent c.args.self.now (record c.args.self.now { is_served = false }) c.silent-2.new.self h (Unsubscribe c.args.sub) (string_bytes c.silent-2.result) so may
    (ended_own c.args.self.now h c.args.sub so c.if-sub-self.false) c.silent-2.ensures.counted c.silent-2.ensures.text refl refl

pub returns-clause-cut : goal.returns-clause-cut
returns-clause-cut c = λ h so may. taken_silent c.args.self.now (record c.args.self.now { is_served = false }) c.silent-2.new.self h (Cut c.args.sub) (string_bytes c.silent-2.result) so may
    (cut_own c.args.self.now h c.args.sub so c.if-sub-self.false) c.silent-2.ensures.counted c.silent-2.ensures.text refl refl
