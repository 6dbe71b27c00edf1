use Rattle.std.proofs.Common.{◌+◌, ◌<◌, ◌≤◌, ℕ, ap, subst, ◌∙◌, arith}
use Rattle.rule_table.specs.Near.{HaveSameKeys, HasKeys}
use Rattle.flow_anonymize.specs.Classes.{classes_of}
use Rattle.flow_anonymize.specs.Parts.{record_at}
use Rattle.mediator_shares.specs.Judges.{Judges}
use Rattle.mediator_shares.proofs.StretchLaws.{goes_start, goes_step, is_there, fewer_left}
use Rattle.mediator_shares.proofs.judges.Judges.stretch.Goals as goal

pub records-init : goal.records-init
records-init c =
    let run = c.args.run.now in
    let from = c.args.from in
    let to = c.same_until-to.result in
    let cuts = ap (λ (j : Judges). j.cuts) c.self.view_is in (
      goes_start c.args.self.now.cuts run from to c.args.classes c.classes_at-next.result c.same_until-to.ensures.some c.same_until-to.ensures.within c.requires.classes
          (subst (λ cuts. (i : ℕ) → from ≤ i → i < to → HaveSameKeys cuts (record_at run i) (record_at run from)) cuts c.same_until-to.ensures.alike)
          (subst (λ cuts. from + 1 < to → HasKeys cuts (record_at run from)) cuts c.same_until-to.ensures.known) c.classes_at-next.ensures.value c.classes_at-next.ensures.over,
      c.classes_at-next.ensures.unchanged,
    )

pub overflow_add-to : goal.overflow_add-to
overflow_add-to c =
    let there = is_there c.args.self.now.cuts c.args.run.now c.args.from c.records.to c.args.classes c.records.next c.records.invariant.0 (c.are_same.ensures.some c.records-test.true) in
    omega (arith, there, c.len-for_proof.ensures.value)

pub records-preserved : goal.records-preserved
records-preserved c =
    let same = c.records.invariant.1 in (
      goes_step c.args.self.now.cuts c.args.run.now c.args.from c.records.to c.args.classes c.records.next c.classes_at-next-in-records.result c.records.invariant.0 (c.are_same.ensures.same c.records-test.true) (c.are_same.ensures.some c.records-test.true)
          (λ l. c.classes_at-next-in-records.ensures.value l ∙ ap (λ (j : Judges). classes_of j.cuts (record_at c.args.run.now (c.records.to + 1))) same) c.classes_at-next-in-records.ensures.over,
      c.classes_at-next-in-records.ensures.unchanged ∙ same,
    )

pub records-smaller : goal.records-smaller
records-smaller c = fewer_left c.args.self.now.cuts c.args.run.now c.args.from c.records.to c.args.classes c.records.next c.records.invariant.0 (c.are_same.ensures.some c.records-test.true)
