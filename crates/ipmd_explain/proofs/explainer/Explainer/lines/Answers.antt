use Rattle.std.proofs.Common.{rules, arith, ap, get_or, ◌∙◌, ◌≡◌}
use Rattle.std.specs.Prelude.{string_bytes}
use Rattle.ipfix_template.specs.DataRecord.{DataRecord}
use Rattle.ipmd_explain.specs.Standing.{explained_line_for}
use Rattle.ipmd_explain.proofs.StandingLaws.{lines_turn}
use Rattle.ipmd_explain.proofs.explainer.Explainer.lines.Goals as goal

pub records-preserved : goal.records-preserved
records-preserved c =
    let r = c.index-records-place.result in
    let is : r ≡ get_or c.args.records.now c.records.place r = search rules in
    lines_turn c.args.self.now c.args.domain c.args.records.now c.records.place r (string_bytes c.records.text) (string_bytes c.in_ok-line.line) (string_bytes c.push_str.new.self) (omega arith) c.records.invariant
    (c.in_ok-line.ensures ∙ ap (λ (s : DataRecord). explained_line_for c.args.self.now c.args.domain (c.records.place, s)) is)
    (search rules)
