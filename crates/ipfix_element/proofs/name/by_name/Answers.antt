use Rattle.std.proofs.Common.{Some, ◌∙◌, ap}
use Rattle.ipfix_element.specs.Lines.{as_line}
use Rattle.ipfix_element.proofs.NameLaws.{line_only, no_line, not_both}
use Rattle.ipfix_element.proofs.name.by_name.Goals as goal

pub returns-in-Some-clause-only : goal.returns-in-Some-clause-only
returns-in-Some-clause-only c = λ e ok is.
    let same = line_only c.args.text.now c.in-Some.number c.in-Some.ensures.found e ok is in
    ap Some (c.registered.ensures ∙ same)

pub returns-in_err-element-clause-only : goal.returns-in_err-element-clause-only
returns-in_err-element-clause-only c = λ e ok is.
    let unlisted = no_line c.args.text.now c.in_default.ensures.only e is in
    let missed = c.in_err-element.ensures.only e ok unlisted.1 in
    let clash : ⊥ = cc in
    absurd clash

pub returns-in-Some-entry_for-clause-only : goal.returns-in-Some-entry_for-clause-only
returns-in-Some-entry_for-clause-only c = λ e ok is.
    let unlisted = no_line c.args.text.now c.in_default.ensures.only e is in
    let same = c.in_ok-element.ensures.only e ok unlisted.1 in
    absurd (not_both c.in_ok-element.element e (as_line c.in_ok-element.element.number c.in-Some-entry_for.field-0) same c.in-Some-entry_for.ensures unlisted.0)

pub returns-in-None-clause-only : goal.returns-in-None-clause-only
returns-in-None-clause-only c = λ e ok is.
    let unlisted = no_line c.args.text.now c.in_default.ensures.only e is in
    c.in_ok-element.ensures.only e ok unlisted.1
