use Rattle.std.proofs.Common.{Some, None, sym, subst, ◌∙◌, arith}
use Rattle.std.proofs.lemmas.Str.Pattern.{strip_prefix_char, split_parts}
use Rattle.numerals.specs.Numerals.{IsNumber}
use Rattle.ipfix_element.proofs.NameLaws.{no_e, slash_is, single_is, pair_found, made_is}
use Rattle.ipfix_element.proofs.name.numbered.Goals as goal

pub returns-in_err-numbers-clause-only : goal.returns-in_err-numbers-clause-only
returns-in_err-numbers-clause-only c =
    let none = rw c.in_err-numbers.was at (strip_prefix_char 101 c.args.text.now c.strip_prefix.result c.strip_prefix.ensures.cases (omega arith)) in
    λ e ok is. absurd (no_e c.args.text.now none e is)

pub returns-in_err-read_number-in-Some-clause-only : goal.returns-in_err-read_number-in-Some-clause-only
returns-in_err-read_number-in-Some-clause-only c =
    let front = rw c.in_ok-numbers.was at (strip_prefix_char 101 c.args.text.now c.strip_prefix.result c.strip_prefix.ensures.cases (omega arith)) in
    let parts = split_parts 47 c.in_ok-numbers.numbers.now (Some (c.in-Some.pen, c.in-Some.number)) c.in-Some.ensures.cases (omega arith) in
    λ e ok is.
    let pair = slash_is c.args.text.now c.in_ok-numbers.numbers.now c.in-Some.pen.now c.in-Some.number.now front parts.0 parts.1 e ok is in
    let read = c.in_err-read_number-in-Some.ensures.only pair.enterprise (subst (λ w. IsNumber 4294967295 w pair.enterprise) (sym c.as_bytes.ensures.value) pair.pen_number) in
    let clash : ⊥ = cc in
    absurd clash

pub returns-in_ok-read_number-in-Some-clause-found : goal.returns-in_ok-read_number-in-Some-clause-found
returns-in_ok-read_number-in-Some-clause-found c =
    let front = rw c.in_ok-numbers.was at (strip_prefix_char 101 c.args.text.now c.strip_prefix.result c.strip_prefix.ensures.cases (omega arith)) in
    let parts = split_parts 47 c.in_ok-numbers.numbers.now (Some (c.in-Some.pen, c.in-Some.number)) c.in-Some.ensures.cases (omega arith) in
    let read = subst (λ w. IsNumber 4294967295 w c.in_ok-read_number-in-Some.field-0) c.as_bytes.ensures.value c.in_ok-read_number-in-Some.ensures.found in
    let found = c.element_at.ensures.found in
    pair_found c.args.text.now c.in_ok-numbers.numbers.now c.in-Some.pen.now c.in-Some.number.now c.in_ok-read_number-in-Some.field-0 c.element_at.result front parts.0 read found

pub returns-in_ok-read_number-in-Some-clause-only : goal.returns-in_ok-read_number-in-Some-clause-only
returns-in_ok-read_number-in-Some-clause-only c =
    let front = rw c.in_ok-numbers.was at (strip_prefix_char 101 c.args.text.now c.strip_prefix.result c.strip_prefix.ensures.cases (omega arith)) in
    let parts = split_parts 47 c.in_ok-numbers.numbers.now (Some (c.in-Some.pen, c.in-Some.number)) c.in-Some.ensures.cases (omega arith) in
    λ e ok is.
    let pair = slash_is c.args.text.now c.in_ok-numbers.numbers.now c.in-Some.pen.now c.in-Some.number.now front parts.0 parts.1 e ok is in
    let read = c.in_ok-read_number-in-Some.ensures.only pair.enterprise (subst (λ w. IsNumber 4294967295 w pair.enterprise) (sym c.as_bytes.ensures.value) pair.pen_number) in
    let made = c.element_at.ensures.only e.number ok.number pair.number_text in
    made_is c.element_at.result (Some c.in_ok-read_number-in-Some.field-0) e made (read ∙ sym pair.is)

pub returns-in-None-clause-only : goal.returns-in-None-clause-only
returns-in-None-clause-only c =
    let front = rw c.in_ok-numbers.was at (strip_prefix_char 101 c.args.text.now c.strip_prefix.result c.strip_prefix.ensures.cases (omega arith)) in
    let lacks = split_parts 47 c.in_ok-numbers.numbers.now None c.in-None.ensures.cases (omega arith) in
    λ e ok is.
    let single = single_is c.args.text.now c.in_ok-numbers.numbers.now front lacks e is in
    let made = c.element_at-in-None.ensures.only e.number ok.number single.1 in
    made_is c.element_at-in-None.result None e made (sym single.0)
