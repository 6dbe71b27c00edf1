use Rattle.std.proofs.Common.{sym, ap, ◌∙◌, arith}
use Rattle.flow_prefix.specs.Family.{separator}
use Rattle.flow_prefix.specs.Parts.{added_parts}
use Rattle.flow_prefix.specs.Reading.{cut_at}
use Rattle.flow_prefix.proofs.PartsLaws.{read_parts-turn, read_parts-fault, cut_at-shorter, parts_of-whole}
use Rattle.flow_prefix.proofs.parts.read_parts.Goals as goal

pub returns-in_err-parts-clause-value : goal.returns-in_err-parts-clause-value
returns-in_err-parts-clause-value c =
    let found = ap (λ b. cut_at b c.words.rest.now) (sym c.separator.ensures) ∙ sym c.in-Some.ensures in
    let fault = read_parts-fault c.args.family c.words.parts c.words.rest.now c.in-Some.word.now c.in-Some.after.now found (grind arith) in
    grind (arith, fault)

pub words-smaller : goal.words-smaller
words-smaller c =
    let found = ap (λ b. cut_at b c.words.rest.now) (sym c.separator.ensures) ∙ sym c.in-Some.ensures in
    cut_at-shorter (separator c.args.family) c.words.rest.now c.in-Some.word.now c.in-Some.after.now found

pub words-preserved : goal.words-preserved
words-preserved c =
    let found = ap (λ b. cut_at b c.words.rest.now) (sym c.separator.ensures) ∙ sym c.in-Some.ensures in
    let turn = read_parts-turn c.args.family c.words.parts c.in_ok-parts.parts c.words.rest.now c.in-Some.word.now c.in-Some.after.now found (grind arith) in
    record { reading = sym turn ∙ c.words.invariant.reading; is_counted = c.in_ok-parts.ensures.counted }

pub returns-clause-value : goal.returns-clause-value
returns-clause-value c =
    let none = ap (λ b. cut_at b c.words.rest.now) (sym c.separator.ensures) ∙ sym c.in_default.ensures in
    c.with_word-2.ensures.value ∙ ap (added_parts c.args.family c.words.parts) (sym (parts_of-whole c.args.family c.words.rest.now none)) ∙ c.words.invariant.reading
