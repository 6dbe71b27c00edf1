use Rattle.std.proofs.Common.{◌∙◌, sym, ap, arith}
use Rattle.std.proofs.lemmas.Result.{err_from_is_err_and}
use Rattle.journal_files.specs.Gathering.{announced}
use Rattle.journal_files.specs.Streaming.{next_entry_of}
use Rattle.journal_files.proofs.Gathered.{loses_after, gathers_more, from_nothing}
use Rattle.journal_files.proofs.Decided.{gathered_none, filled_false, filled_true, single, no_kind, gathered_front, gathered_body}
use Rattle.journal_files.proofs.Stopping.{stops_by}
use Rattle.journal_files.proofs.TooLong.{stops_long}
use Rattle.journal_files.proofs.gathering.gather.Goals as goal

pub returns-then-not-branch-clause-gathered : goal.returns-then-not-branch-clause-gathered
returns-then-not-branch-clause-gathered g c =
    let few = filled_false c.in_ok-fill.field-0 1 c.fill.new.held.items _ c.if-not-branch.true c.in_ok-fill.ensures.filled in gathered_none c.fill.new.held.items _ few.0 few.1

pub returns-in_default-clause-gathered : goal.returns-in_default-clause-gathered
returns-in_default-clause-gathered g c =
    let one = single c.fill.new.held.items c.index-kind.result.now (filled_true c.in_ok-fill.field-0 1 c.fill.new.held.items _ c.if-not-branch.false c.in_ok-fill.ensures.filled) c.index-kind.ensures in
    no_kind c.fill.new.held.items c.index-kind.result.now c.front_of_kind.result _ one c.front_of_kind.ensures.value c.in_default.not-Some

pub returns-in_err-fill-2-clause-err : goal.returns-in_err-fill-2-clause-err
returns-in_err-fill-2-clause-err g c =
    let p = err_from_is_err_and c.from_residual-in_err-fill-2.result c.from_residual-in_err-fill-2.ensures.1 in
    rw (p.1, p.2) (λ place. stops_by c.in_err-fill-2.field-0.0 (next_entry_of place) _ _ _ _ _ c.in_ok-fill.ensures.stays c.in_err-fill-2.ensures.err (loses_after _ _ _ _ _ c.in_ok-fill.ensures.gathers c.in_err-fill-2.ensures.loses))

pub returns-then-not-branch-2-clause-gathered : goal.returns-then-not-branch-2-clause-gathered
returns-then-not-branch-2-clause-gathered g c =
    let one = single c.fill.new.held.items c.index-kind.result.now (filled_true c.in_ok-fill.field-0 1 c.fill.new.held.items _ c.if-not-branch.false c.in_ok-fill.ensures.filled) c.index-kind.ensures in
    gathered_front c.index-kind.result.now c.in-Some.front c.fill.new.held.items c.fill-2.new.held.items _ _ one c.in_ok-fill-2.ensures.gathers (sym c.in-Some.ensures.value) (filled_false c.in_ok-fill-2.field-0 c.in-Some.front c.fill-2.new.held.items _ c.if-not-branch-2.true c.in_ok-fill-2.ensures.filled)

pub returns-in_err-skip-clause-err : goal.returns-in_err-skip-clause-err
returns-in_err-skip-clause-err g c =
    let p = err_from_is_err_and c.from_residual-in_err-skip.result c.from_residual-in_err-skip.ensures.1 in
    rw (p.1, p.2) (λ place. stops_by c.in_err-skip.field-0.0 (next_entry_of place) _ _ _ _ _ (c.in_ok-fill-2.ensures.stays ∙ c.in_ok-fill.ensures.stays) c.in_err-skip.ensures.err
    (loses_after _ _ _ _ _ (gathers_more _ _ _ _ _ _ c.in_ok-fill.ensures.gathers c.in_ok-fill-2.ensures.gathers) c.in_err-skip.ensures.loses))

pub returns-in_err-fill-3-clause-err : goal.returns-in_err-fill-3-clause-err
returns-in_err-fill-3-clause-err g c =
    let p = err_from_is_err_and c.from_residual-in_err-fill-3.result c.from_residual-in_err-fill-3.ensures.1 in
    rw (p.1, p.2) (λ place. stops_by c.in_err-fill-3.field-0.0 (next_entry_of place) _ _ _ _ _ (c.in_ok-fill-2.ensures.stays ∙ c.in_ok-fill.ensures.stays) c.in_err-fill-3.ensures.err
    (loses_after _ _ _ _ _ (gathers_more _ _ _ _ _ _ c.in_ok-fill.ensures.gathers c.in_ok-fill-2.ensures.gathers) c.in_err-fill-3.ensures.loses))

pub returns-clause-gathered : goal.returns-clause-gathered
returns-clause-gathered g c =
    let one = single c.fill.new.held.items c.index-kind.result.now (filled_true c.in_ok-fill.field-0 1 c.fill.new.held.items _ c.if-not-branch.false c.in_ok-fill.ensures.filled) c.index-kind.ensures in
    gathered_body c.index-kind.result.now c.in-Some.front c.announced_by-more.result c.fill.new.held.items c.fill-2.new.held.items c.fill-3.new.held.items _ _ _ c.in_ok-fill-3.field-0 one c.in_ok-fill-2.ensures.gathers c.in_ok-fill-3.ensures.gathers
    (sym c.in-Some.ensures.value) (filled_true c.in_ok-fill-2.field-0 c.in-Some.front c.fill-2.new.held.items _ c.if-not-branch-2.false c.in_ok-fill-2.ensures.filled) (c.announced_by-more.ensures.value ∙ ap (announced c.index-kind.result.now) c.as_slice.ensures.value) c.in_ok-fill-3.ensures.filled

pub returns-then-more-gt-MOST_OCTETS-clause-err : goal.returns-then-more-gt-MOST_OCTETS-clause-err
returns-then-more-gt-MOST_OCTETS-clause-err g c = λ place.
    let one = single c.fill.new.held.items c.index-kind.result.now (filled_true c.in_ok-fill.field-0 1 c.fill.new.held.items _ c.if-not-branch.false c.in_ok-fill.ensures.filled) c.index-kind.ensures in
    stops_long place c.in_ok-skip.field-0 c.index-kind.result.now c.in-Some.front c.announced_by-more.result c.fill.new.held.items c.fill-2.new.held.items _ _ _ _ _ _ one (from_nothing _ _ _ _ c.requires c.in_ok-fill.ensures.gathers) c.in_ok-fill-2.ensures.gathers
    (c.announced_by-more.ensures.long (omega (arith, c.if-more-gt-MOST_OCTETS.true))) (sym c.in-Some.ensures.value) (filled_true c.in_ok-fill-2.field-0 c.in-Some.front c.fill-2.new.held.items _ c.if-not-branch-2.false c.in_ok-fill-2.ensures.filled)
    (c.announced_by-more.ensures.value ∙ ap (announced c.index-kind.result.now) c.as_slice.ensures.value) c.if-more-gt-MOST_OCTETS.true (c.in_ok-skip.ensures.stays ∙ c.in_ok-fill-2.ensures.stays ∙ c.in_ok-fill.ensures.stays) c.in_ok-skip.ensures.skips
