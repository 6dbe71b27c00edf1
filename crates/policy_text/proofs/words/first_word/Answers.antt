use Rattle.std.proofs.Common.{sym, ap, ◌∙◌, arith}
use Rattle.policy_text.specs.Words.{first_of}
use Rattle.policy_text.proofs.WordLaws.{words_of-none, position-none, in_word, from_place, from_word, begins_word, first_until, last_whole}
use Rattle.policy_text.proofs.words.first_word.Goals as goal

pub returns-in_err-start : goal.returns-in_err-start
returns-in_err-start c =
    let none = ap first_of (words_of-none c.args.line.now (position-none in_word c.args.line.now (sym c.in_err-start.ensures.value))) in
    grind (arith, none)

pub returns-in-Some : goal.returns-in-Some
returns-in-Some c =
    let line = from_place c.in_ok-start.start c.args.line.now in
    let skip = from_word c.args.line.now c.in_ok-start.start (sym c.in_ok-start.ensures.value) in
    let begins = begins_word c.args.line.now c.in_ok-start.start (sym c.in_ok-start.ensures.value) in
    ap first_of (skip ∙ first_until line c.in-Some.end begins.1 (sym c.in-Some.ensures.value))

pub returns-in-None : goal.returns-in-None
returns-in-None c =
    let line = from_place c.in_ok-start.start c.args.line.now in
    let skip = from_word c.args.line.now c.in_ok-start.start (sym c.in_ok-start.ensures.value) in
    let begins = begins_word c.args.line.now c.in_ok-start.start (sym c.in_ok-start.ensures.value) in
    ap first_of (skip ∙ last_whole line begins.0 (sym c.in-None.ensures.value))
