use Rattle.std.proofs.Common.{◌<◌, ◌≤◌, Some, length, refl, sym, ap, ◌∙◌, arith}
use Rattle.flow_anonymize.specs.Classes.{classes_of}
use Rattle.flow_anonymize.specs.Parts.{record_at, records_between}
use Rattle.mediator_shares.proofs.JudgeLaws.{judge_at, judge_same, template_at, cuts_at, there_for}
use Rattle.mediator_shares.proofs.SharingLaws.{giving_start, giving_step, given_all}
use Rattle.mediator_shares.proofs.AlikeLaws.{at_place, deciding_step, decided_all}
use Rattle.mediator_shares.proofs.deciding.decide.Goals as goal

pub leaders-init : goal.leaders-init
leaders-init c = (
  giving_start c.args.judges.now.shares c.args.domain c.args.in_force.now (records_between c.args.from c.args.to c.args.run.now) c.args.leaders.now c.requires.each,
  (λ i low high. c.clear.ensures.items),
  c.requires.judges,
  refl,
)

pub disclose-requires-clause-there : goal.disclose-requires-clause-there
disclose-requires-clause-there c = there_for c.leaders.judges c.args.in_force.now c.args.domain _ c.args.leaders.now c.leaders.place c.leaders.invariant.2 (omega (arith, c.leaders-test.true))

pub disclose-requires-clause-template : goal.disclose-requires-clause-template
disclose-requires-clause-template c = λ p at. template_at c.leaders.judges c.args.in_force.now c.args.domain _ c.args.leaders.now c.leaders.place p c.leaders.invariant.2 at

pub disclose-requires-clause-cuts : goal.disclose-requires-clause-cuts
disclose-requires-clause-cuts c = λ p at. cuts_at c.leaders.judges c.args.in_force.now c.args.domain _ c.args.leaders.now c.leaders.place p c.leaders.invariant.2 at

pub disclose-requires-clause-classes : goal.disclose-requires-clause-classes
disclose-requires-clause-classes c = λ i low high. c.requires.classes i low high ∙ ap (λ cuts. classes_of cuts (record_at c.args.run.now i)) (sym c.leaders.invariant.3)

pub leaders-preserved : goal.leaders-preserved
leaders-preserved c =
    let l : c.leaders.place < length c.args.leaders.now = omega (arith, c.leaders-test.true) in
    let one = at_place c.args.leaders.now c.leaders.place l in
    let found = c.in_ok-found.ensures in
    let there = judge_at c.leaders.judges c.args.in_force.now c.args.domain (Some c.args.run.now.template) c.args.leaders.now c.leaders.place one.who one.who c.leaders.invariant.2 l one.is in (
      giving_step c.args.judges.now.shares c.leaders.judges.shares c.disclose.new.self.shares c.args.domain c.args.in_force.now (records_between c.args.from c.args.to c.args.run.now) c.args.leaders.now c.leaders.place one.who one.who c.leaders.invariant.0 l one.is
          (λ before after s split at. found.given _ before after s there split at) found.stay,
      (λ i low high. deciding_step c.args.domain c.args.in_force.now (record_at c.args.run.now i) c.leaders.decided.items c.push.new.self.items c.args.leaders.now c.leaders.place one.who one.who c.in_ok-found.found (c.leaders.invariant.1 i low high) l one.is
          (found.decision _ i there low high) c.in_ok-push.ensures.items),
      judge_same c.leaders.judges c.disclose.new.self c.args.in_force.now c.args.domain (Some c.args.run.now.template) c.args.leaders.now c.leaders.invariant.2 found.template found.fors found.cuts,
      found.cuts ∙ c.leaders.invariant.3,
    )

pub returns-clause-shares : goal.returns-clause-shares
returns-clause-shares c = λ done start.
    let over : length c.args.leaders.now ≤ c.leaders.place = omega (arith, c.leaders-test.false) in
    given_all c.args.judges.now.shares c.leaders.judges.shares c.args.domain c.args.in_force.now (records_between c.args.from c.args.to c.args.run.now) c.args.leaders.now c.leaders.place c.leaders.invariant.0 over done start

pub returns-clause-decided : goal.returns-clause-decided
returns-clause-decided c = λ i low high.
    let over : length c.args.leaders.now ≤ c.leaders.place = omega (arith, c.leaders-test.false) in
    decided_all c.args.domain c.args.in_force.now (record_at c.args.run.now i) c.leaders.decided.items c.args.leaders.now c.leaders.place (c.leaders.invariant.1 i low high) over
