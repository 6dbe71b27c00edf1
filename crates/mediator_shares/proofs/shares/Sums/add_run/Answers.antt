use Rattle.std.proofs.Common.{◌≤◌, Some, map, sym, ap, ◌∙◌, subst, arith}
use Rattle.std.proofs.lemmas.List.{length-map}
use Rattle.ipfix_template.specs.declared.template.Template.{Template}
use Rattle.ipfix_template.specs.DataRecord.{kept_record}
use Rattle.ipfix_records.specs.Runs.{run_records}
use Rattle.flow_anonymize.specs.Classes.{classes_of}
use Rattle.flow_anonymize.specs.Parts.{record_at}
use Rattle.mediator_shares.specs.Judges.{Judges, JudgeFor, of_template}
use Rattle.mediator_shares.proofs.JudgeLaws.{judge_begun}
use Rattle.mediator_shares.proofs.SharingLaws.{IsRunning, running_start, running_step}
use Rattle.mediator_shares.proofs.shares.Sums.add_run.Goals as goal

pub stretches-init : goal.stretches-init
stretches-init c =
    let begun = c.in_ok-begin.ensures in
    let shared = c.shared_template.ensures.value in
    let same = c.classes_at-classes.ensures.unchanged in
    let start = running_start c.args.judges.now.shares c.begin.new.self.shares c.args.self.now.tallies.items c.args.self.now.notes c.args.domain c.args.in_force.now c.args.before (run_records c.args.run.now) c.args.leaders.now c.args.served.now
    (ap (λ (j : Judges). j.shares) begun) c.requires.each c.requires.each_tally in
    let fit = judge_begun c.args.judges.now c.begin.new.self c.args.in_force.now c.args.domain _ c.args.run.now.template c.args.leaders.now c.requires.judges.judges
    (ap (λ (j : Judges). j.template) begun ∙ ap (λ (t : Template). Some t) shared) (ap (λ (j : Judges). j.fors) begun ∙ ap (λ (t : Template). map (of_template t) c.args.judges.now.fors) shared) (ap (λ (j : Judges). j.cuts) begun) in (
      subst (λ (j : Judges). IsRunning c.args.judges.now.shares j.shares c.args.self.now.tallies.items c.args.self.now.tallies.items c.args.self.now.notes c.args.self.now.notes c.args.domain c.args.in_force.now c.args.before (run_records c.args.run.now) c.args.leaders.now c.args.served.now 0) (sym same) start,
      subst (λ (j : Judges). JudgeFor j c.args.in_force.now c.args.domain (Some c.args.run.now.template) c.args.leaders.now) (sym same) fit,
      omega arith,
      (λ l. c.classes_at-classes.ensures.value l ∙ ap (λ (j : Judges). classes_of j.cuts (record_at c.args.run.now 0)) (sym same)),
    )

pub stretches-preserved : goal.stretches-preserved
stretches-preserved c =
    let found = c.stretch-to.ensures in
    let same = found.unchanged in
    let added = c.in_ok-add_stretch.ensures in
    let order : c.stretches.from ≤ c.stretch-to.result.0 = omega (arith, found.some) in (
      running_step c.args.judges.now.shares c.stretch-to.new.self c.add_stretch.new.judges c.args.self.now.tallies.items c.stretches.self.tallies.items c.add_stretch.new.self.tallies.items c.args.self.now.notes c.stretches.self.notes c.add_stretch.new.self.notes
          c.args.domain c.args.in_force.now c.args.before (run_records c.args.run.now) c.args.leaders.now c.args.served.now c.stretches.from c.stretch-to.result.0 c.args.run.now.template
          (subst (λ (j : Judges). IsRunning c.args.judges.now.shares j.shares c.args.self.now.tallies.items c.stretches.self.tallies.items c.args.self.now.notes c.stretches.self.notes c.args.domain c.args.in_force.now c.args.before (run_records c.args.run.now) c.args.leaders.now c.args.served.now c.stretches.from) (sym same) c.stretches.invariant.0)
          order (omega (arith, found.within, length-map c.args.run.now.texts (kept_record c.args.run.now.template))) added,
      added.judges,
      found.within,
      (λ l. found.next l ∙ ap (λ cuts. classes_of cuts (record_at c.args.run.now c.stretch-to.result.0)) (sym (added.cuts ∙ ap (λ (j : Judges). j.cuts) same))),
    )
