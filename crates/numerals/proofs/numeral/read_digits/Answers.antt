use Rattle.std.proofs.Common.{refl, ◌≡◌, ◌+◌, ◌*◌, ◌<◌, [], length, drop, sym, ap, ◌∙◌, arith}
use Rattle.std.specs.Char.{digit_value}
use Rattle.std.proofs.lemmas.Bool.{eqb-true, eqb-false}
use Rattle.std.proofs.lemmas.List.{drop_all}
use Rattle.numerals.proofs.NumeralLaws.{digits_from, digits_number-empty, digits_number-from, digits_from-above, digits_from-more, digits_from-stop, digits_from-nil}
use Rattle.numerals.proofs.numeral.read_digits.Goals as goal

pub returns-then-is_empty : goal.returns-then-is_empty
returns-then-is_empty c =
    sym (digits_number-empty c.args.radix c.args.most c.args.word.now (eqb-true (length c.args.word.now) 0 (sym c.is_empty.ensures ∙ c.if-is_empty.true)))

pub returns-in_err-digit : goal.returns-in_err-digit
returns-in_err-digit c =
    let some : 0 < length c.args.word.now = omega arith in
    let start = digits_number-from c.args.radix c.args.most c.args.word.now some in
    let stop = digits_from-stop c.args.radix c.args.most c.loop-byte.value c.loop-byte.byte-index c.from.result c.args.word.now (omega arith) (grind arith) (grind arith) in
    grind (arith, start, stop)

pub returns-then-value-from : goal.returns-then-value-from
returns-then-value-from c =
    let some : 0 < length c.args.word.now = omega arith in
    let start = digits_number-from c.args.radix c.args.most c.args.word.now some in
    let more = digits_from-more c.args.radix c.args.most c.loop-byte.value c.loop-byte.byte-index c.from.result c.args.word.now (omega arith) (grind arith) c.in_ok-digit.ensures.value.0 in
    let next : c.loop-byte.value * c.args.radix + digit_value c.from.result ≡ c.loop-byte.value * c.from-in-loop-byte.result + c.from-in-loop-byte-2.result = rw (c.from-in-loop-byte.ensures, c.from-in-loop-byte-2.ensures, c.in_ok-digit.ensures.value.1) refl in
    let above = digits_from-above c.args.radix c.args.most (c.loop-byte.value * c.args.radix + digit_value c.from.result) (drop (c.loop-byte.byte-index + 1) c.args.word.now) (omega arith) (omega (arith, next)) in
    sym (start ∙ sym c.loop-byte.invariant.reading ∙ more ∙ above)

pub loop-byte-preserved : goal.loop-byte-preserved
loop-byte-preserved c =
    let more = digits_from-more c.args.radix c.args.most c.loop-byte.value c.loop-byte.byte-index c.from.result c.args.word.now (omega arith) (grind arith) c.in_ok-digit.ensures.value.0 in
    let next : c.loop-byte.value * c.args.radix + digit_value c.from.result ≡ c.loop-byte.value * c.from-in-loop-byte.result + c.from-in-loop-byte-2.result = rw (c.from-in-loop-byte.ensures, c.from-in-loop-byte-2.ensures, c.in_ok-digit.ensures.value.1) refl in
    record {
      reading = ap (λ n. digits_from c.args.radix c.args.most n (drop (c.loop-byte.byte-index + 1) c.args.word.now)) (sym next) ∙ sym more ∙ c.loop-byte.invariant.reading;
      bound = omega arith;
    }

pub returns : goal.returns
returns c =
    let ne = eqb-false (length c.args.word.now) 0 (sym c.is_empty.ensures ∙ c.if-is_empty.false) in
    let some : 0 < length c.args.word.now = omega (arith, ne) in
    let start = digits_number-from c.args.radix c.args.most c.args.word.now some in
    let end : drop c.loop-byte.byte-index c.args.word.now ≡ [] = drop_all c.loop-byte.byte-index c.args.word.now (omega arith) in
    let nil = digits_from-nil c.args.radix c.args.most c.loop-byte.value c.loop-byte.invariant.bound in
    sym (start ∙ sym c.loop-byte.invariant.reading ∙ ap (digits_from c.args.radix c.args.most c.loop-byte.value) end ∙ nil)
