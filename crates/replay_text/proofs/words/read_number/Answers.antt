use Rattle.std.proofs.Common.{Some, None, ◌∙◌, subst}
use Rattle.std.proofs.lemmas.Bool.{le-leb, lt-leb}
use Rattle.replay_text.proofs.NumberLaws.{number_by_value, IsPlain}
use Rattle.replay_text.proofs.words.read_number.Goals as goal

pub returns-in_err-number-clause-value : goal.returns-in_err-number-clause-value
returns-in_err-number-clause-value c =
    let plain : IsPlain c.args.word.now = subst IsPlain c.as_bytes.ensures.value (c.is_plain.ensures.plain c.if-not-is_plain.false) in
    c.from_residual.ensures ∙ number_by_value c.args.most c.args.word.now c.parse.result None c.ranges.most.fits plain c.parse.ensures.value.0 c.in_err-number.ensures.value

pub returns-then-number-most-clause-value : goal.returns-then-number-most-clause-value
returns-then-number-most-clause-value c =
    let plain : IsPlain c.args.word.now = subst IsPlain c.as_bytes.ensures.value (c.is_plain.ensures.plain c.if-not-is_plain.false) in
    let fits = le-leb c.in_ok-number.number c.args.most c.if-number-most.true in
    rw fits at (number_by_value c.args.most c.args.word.now c.parse.result (Some c.in_ok-number.number) c.ranges.most.fits plain c.parse.ensures.value.0 c.in_ok-number.ensures.value)

pub returns-else-number-most-clause-value : goal.returns-else-number-most-clause-value
returns-else-number-most-clause-value c =
    let plain : IsPlain c.args.word.now = subst IsPlain c.as_bytes.ensures.value (c.is_plain.ensures.plain c.if-not-is_plain.false) in
    let above = lt-leb c.in_ok-number.number c.args.most c.if-number-most.false in
    rw above at (number_by_value c.args.most c.args.word.now c.parse.result (Some c.in_ok-number.number) c.ranges.most.fits plain c.parse.ensures.value.0 c.in_ok-number.ensures.value)
