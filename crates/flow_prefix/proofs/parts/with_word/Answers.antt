use Rattle.std.proofs.Common.{[], sym, arith}
use Rattle.flow_prefix.proofs.PartsLaws.{continued-word, continued-word_full, continued-no_word, part_fits}
use Rattle.flow_prefix.proofs.parts.with_word.Goals as goal

pub returns-in_err-part-clause-value : goal.returns-in_err-part-clause-value
returns-in_err-part-clause-value c =
    let none = continued-no_word c.args.family c.args.parts c.args.word.now [] (grind arith) in
    grind (arith, none)

pub returns-then-parts-places-clause-value : goal.returns-then-parts-places-clause-value
returns-then-parts-places-clause-value c =
    sym (continued-word_full c.args.family c.args.parts c.args.word.now c.in_ok-part.part (grind arith) (omega arith))

pub overflow_mul-result : goal.overflow_mul-result
overflow_mul-result c =
    let fits = part_fits c.args.family c.args.parts.count c.args.parts.value c.in_ok-part.part c.requires.below (omega arith) c.in_ok-part.ensures.bound in
    rw c.base.ensures (omega (arith, fits))

pub overflow_add-result-2 : goal.overflow_add-result-2
overflow_add-result-2 c =
    let fits = part_fits c.args.family c.args.parts.count c.args.parts.value c.in_ok-part.part c.requires.below (omega arith) c.in_ok-part.ensures.bound in
    rw (c.base.ensures, c.from.ensures) (omega (arith, fits))

pub returns-clause-value : goal.returns-clause-value
returns-clause-value c =
    let word = continued-word c.args.family c.args.parts c.args.word.now c.in_ok-part.part (grind arith) (omega arith) in
    grind (arith, word)
