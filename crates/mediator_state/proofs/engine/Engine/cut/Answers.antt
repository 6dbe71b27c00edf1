use Rattle.std.proofs.Common.{[], ◌∷◌, refl, sym, ap, subst, rules}
use Rattle.disclosure_audit.specs.Queue.{KeptAudit, TakesEntries}
use Rattle.disclosure_audit.proofs.StandingLaws.{same_notes}
use Rattle.disclosure_audit.specs.declared.entry.What.TheVariants.{Cut as CutOff}
use Rattle.mediator_history.specs.Auditing.{audit_entry}
use Rattle.flow_aggregate.specs.Running.{HeldGroups}
use Rattle.mediator_state.proofs.CutSteps.{cut_step}
use Rattle.mediator_state.proofs.engine.Engine.cut.Goals as goal

pub returns-clause-notes : goal.returns-clause-notes
returns-clause-notes g c = same_notes c.args.self.now.audit c.push_reserved.new.self _ (ap (λ (a : KeptAudit). a.standing.entries) c.push_reserved.ensures.value) (ap (λ (a : KeptAudit). a.limit) c.push_reserved.ensures.value)

pub returns-clause-stands : goal.returns-clause-stands
returns-clause-stands g c = λ h so counted.
    cut_step c.args.self.now _ h c.args.sub.0 so (record { in_force = refl; edits = refl; opened = refl; begun = refl; sessions = refl; limits = refl; audit_limit = search rules; drained = search rules }) c.cut.ensures.each c.cut.ensures.served (ap (λ (x : HeldGroups). x.groups) c.remove.ensures.gone) (λ q other. ap (λ (x : HeldGroups). x.groups) (c.remove.ensures.others q other))
    (subst (λ n. TakesEntries c.args.self.now.audit.standing (audit_entry n 0 c.args.sub.0 CutOff ∷ []) c.push_reserved.new.self.standing) (sym counted) c.push_reserved.ensures.stands)
