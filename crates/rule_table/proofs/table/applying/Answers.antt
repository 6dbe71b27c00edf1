use Rattle.std.proofs.Common.{◌≡◌, ℕ, List, filter, subst}
use Rattle.std.proofs.lemmas.Result.{IfOk-weaker}
use Rattle.policy_judge.specs.Occurrences.{sources}
use Rattle.rule_table.specs.Candidates.{passes}
use Rattle.rule_table.specs.Covering.{applies_by}
use Rattle.rule_table.proofs.KeptLaws.{applying}
use Rattle.rule_table.proofs.VerdictLaws.{judging}
use Rattle.rule_table.proofs.table.applying.Goals as goal

pub returns : goal.returns
returns c = IfOk-weaker c.kept.result _ _ (λ kept are.
    let P : List ℕ → Type 0 = λ name. kept.items ≡ filter (passes (applies_by name c.args.domain c.args.from.now c.args.to.now) c.args.rules.now) c.args.places.now in
    let Q : List (List ℕ) → Type 0 = λ from. kept.items ≡ filter (passes (applies_by c.args.name.now c.args.domain from c.args.to.now) c.args.rules.now) c.args.places.now in
    let R : List (List ℕ) → Type 0 = λ to. kept.items ≡ filter (passes (applies_by c.args.name.now c.args.domain (sources c.args.flow_record.now) to) c.args.rules.now) c.args.places.now in
    applying (judging c.args.rules.now c.args.name.now c.args.domain c.args.flow_record.now) c.args.places.now kept.items c.requires.are
    (subst R c.requires.to (subst Q c.requires.from (subst P c.as_bytes.ensures.value are)))) c.kept.ensures
