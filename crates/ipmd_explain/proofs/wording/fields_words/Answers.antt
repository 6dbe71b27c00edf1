use Rattle.std.proofs.Common.{rules, ◌≡◌, length, ap, ◌∙◌, arith}
use Rattle.std.specs.Prelude.{string_bytes}
use Rattle.std.specs.List.{flat_map, range_with_len}
use Rattle.ipmd_explain.specs.Wording.{field_words}
use Rattle.ipmd_explain.proofs.WordLaws.{fields_turn}
use Rattle.ipmd_explain.proofs.wording.fields_words.Goals as goal

pub fields-preserved : goal.fields-preserved
fields-preserved c =
    fields_turn (field_words c.args.policy.now.rules c.args.name.now c.args.domain c.args.flow_record.now) c.fields.place (string_bytes c.fields.text) (string_bytes c.in_ok-words.words) (string_bytes c.push_str.new.self)
    c.fields.invariant c.in_ok-words.ensures (search rules)

pub returns : goal.returns
returns c =
    let count = c.len-count.ensures.value in
    let fields = ap (λ t. length t.fields) c.template.ensures.value in
    let end : c.fields.place ≡ length c.args.flow_record.now.template.fields = omega (arith, count, fields, c.fields-test.false, c.fields.auto.place-end) in
    c.fields.invariant ∙ ap (λ n. flat_map (field_words c.args.policy.now.rules c.args.name.now c.args.domain c.args.flow_record.now) (range_with_len 0 n)) end
