use Rattle.std.proofs.Common.{sym, ap, ◌∙◌, eqb}
use Rattle.std.specs.List.{slice_split}
use Rattle.std.proofs.lemmas.Result.{err_from_is_err_and}
use Rattle.flow_prefix.proofs.PartsLaws.{cut_at-shorter}
use Rattle.policy_text.specs.Classes.{add_piece, add_pieces, key_of}
use Rattle.policy_text.proofs.ResultLaws.{Fails-bind, Fails-same}
use Rattle.policy_text.proofs.KeyLaws.{key_of-start, add_pieces-cut, add_pieces-whole, add_pieces-turn}
use Rattle.policy_text.proofs.classes.read_key.Goals as goal

pub pieces-init : goal.pieces-init
pieces-init c = ap (λ k. add_pieces k (slice_split (λ o. eqb o 44) c.args.word.now)) c.new-key.ensures.items ∙ key_of-start c.args.word.now

pub returns-in_err-add_piece-clause-value : goal.returns-in_err-add_piece-clause-value
returns-in_err-add_piece-clause-value c =
    let exit = err_from_is_err_and c.from_residual.result c.from_residual.ensures.1 in
    let cut = add_pieces-cut c.pieces.key.items c.pieces.rest.now c.in-Some.piece.now c.in-Some.after.now (sym c.in-Some.ensures) in
    rw (exit.1, exit.2) (Fails-same c.in_err-add_piece.field-0.0 (key_of c.args.word.now) _ (sym c.pieces.invariant ∙ cut)
    (Fails-bind c.in_err-add_piece.field-0.0 (add_piece c.pieces.key.items c.in-Some.piece.now) (λ more. add_pieces more (slice_split (λ o. eqb o 44) c.in-Some.after.now)) c.in_err-add_piece.ensures.value))

pub pieces-smaller : goal.pieces-smaller
pieces-smaller c = cut_at-shorter 44 c.pieces.rest.now c.in-Some.piece.now c.in-Some.after.now (sym c.in-Some.ensures)

pub pieces-preserved : goal.pieces-preserved
pieces-preserved c =
    sym (add_pieces-turn c.pieces.key.items c.add_piece.new.key.items c.pieces.rest.now c.in-Some.piece.now c.in-Some.after.now (sym c.in-Some.ensures) c.in_ok-add_piece.ensures.value) ∙ c.pieces.invariant

pub returns-in_err-add_piece-2-clause-value : goal.returns-in_err-add_piece-2-clause-value
returns-in_err-add_piece-2-clause-value c =
    let exit = err_from_is_err_and c.from_residual-in_err-add_piece-2.result c.from_residual-in_err-add_piece-2.ensures.1 in
    let whole = add_pieces-whole c.pieces.key.items c.pieces.rest.now (sym c.in_default.ensures) in
    rw (exit.1, exit.2) (Fails-same c.in_err-add_piece-2.field-0.0 (key_of c.args.word.now) (add_piece c.pieces.key.items c.pieces.rest.now) (sym c.pieces.invariant ∙ whole) c.in_err-add_piece-2.ensures.value)

pub returns-clause-value : goal.returns-clause-value
returns-clause-value c =
    sym c.pieces.invariant ∙ add_pieces-whole c.pieces.key.items c.pieces.rest.now (sym c.in_default.ensures) ∙ c.in_ok-add_piece-2.ensures.value
