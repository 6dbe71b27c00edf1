use Rattle.std.proofs.Common.{rules, refl}
use Rattle.std.specs.Prelude.{string_bytes, true}
use Rattle.event_journal.specs.declared.entry.Entry.TheVariants.{Subscribe}
use Rattle.ipmd_explain.proofs.StandingLaws.{changed_other, changed_own, taken_silent}
use Rattle.ipmd_explain.proofs.explainer.Explainer.subscribe.Goals as goal

pub returns-then-sub-self : goal.returns-then-sub-self
returns-then-sub-self c = λ h so may. taken_silent c.args.self.now c.args.self.now c.silent.new.self h (Subscribe c.args.sub c.args.name.now) (string_bytes c.silent.result) so may
    (changed_other c.args.self.now h c.args.sub c.args.name.now so c.if-sub-self.true) c.silent.ensures.counted c.silent.ensures.text refl refl

pub returns : goal.returns
returns c = λ h so may. taken_silent c.args.self.now (record c.args.self.now { name = c.in_ok-self.field-0; has_begun = true; is_served = true }) c.silent-2.new.self h (Subscribe c.args.sub c.args.name.now) (string_bytes c.silent-2.result) so may
    (changed_own c.args.self.now (record c.args.self.now { name = c.in_ok-self.field-0; has_begun = true; is_served = true }) h c.args.sub c.args.name.now so c.if-sub-self.false refl refl refl refl refl
    (search rules) refl refl refl refl) c.silent-2.ensures.counted c.silent-2.ensures.text refl refl
