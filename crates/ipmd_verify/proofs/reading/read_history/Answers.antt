use Rattle.std.proofs.Common.{[], ◌∷◌, ◌++◌, ◌∙◌, subst, sym}
use Rattle.history_verify.specs.Answers.{IsVerified}
use Rattle.ipmd_verify.specs.Found.{RefusesFile}
use Rattle.ipmd_verify.proofs.ReadingLaws.{all_said, begun, end_refuses, err_gives, head_refuses, read_on, step_refuses}
use Rattle.ipmd_verify.proofs.reading.read_history.Goals as goal

pub returns-in_err-reader-clause-err : goal.returns-in_err-reader-clause-err
returns-in_err-reader-clause-err g c =
    let given = g.S.Source.remaining c.args.source.now in
    err_gives c.from_residual.result c.from_residual.ensures
    (λ e is. subst (λ x. RefusesFile x given) (sym is) (head_refuses c.in_err-reader.field-0.0 given (g.S.Source.remaining c.start.new.source) _ _ c.in_err-reader.ensures.err))

pub entries-init : goal.entries-init
entries-init g c = record {
  history = [];
  reads = begun (g.S.Source.remaining c.args.source.now) (g.S.Source.remaining c.start.new.source) c.in_ok-reader.reader c.in_ok-reader.ensures.ok.0 c.in_ok-reader.ensures.ok.1 c.in_ok-reader.ensures.few c.in_ok-reader.ensures.ok.2;
  fed = c.in_ok-verifier.ensures.fed;
  kept = c.in_ok-verifier.ensures.wanted;
}

pub returns-in_err-entry-clause-err : goal.returns-in_err-entry-clause-err
returns-in_err-entry-clause-err g c =
    let given = g.S.Source.remaining c.args.source.now in
    err_gives c.from_residual-in_err-entry.result c.from_residual-in_err-entry.ensures
    (λ e is. subst (λ x. RefusesFile x given) (sym is)
    (step_refuses c.in_err-entry.field-0.0 given (g.S.Source.remaining c.entries.source) (g.S.Source.remaining c.next.new.source) c.entries.reader c.entries.invariant.history _ _ c.entries.invariant.reads c.in_err-entry.ensures.err))

pub returns-in-Err-clause-err : goal.returns-in-Err-clause-err
returns-in-Err-clause-err g c =
    let given = g.S.Source.remaining c.args.source.now in
    let h = c.entries.invariant.history in
    c.refusal.ensures given (h ++ c.in-Some.entry ∷ [])
    (read_on given (g.S.Source.remaining c.entries.source) (g.S.Source.remaining c.next.new.source) c.entries.reader c.next.new.self h c.in-Some.entry c.entries.invariant.reads (rw c.in-Some.is at c.in_ok-entry.ensures.ok))
    (c.in-Err.ensures.err h c.entries.invariant.fed)

pub entries-preserved : goal.entries-preserved
entries-preserved g c =
    let h = c.entries.invariant.history in
    record {
      history = h ++ c.in-Some.entry ∷ [];
      reads = read_on (g.S.Source.remaining c.args.source.now) (g.S.Source.remaining c.entries.source) (g.S.Source.remaining c.next.new.source) c.entries.reader c.next.new.self h c.in-Some.entry c.entries.invariant.reads
          (rw c.in-Some.is at c.in_ok-entry.ensures.ok);
      fed = c.in-Ok.ensures.ok h c.entries.invariant.fed;
      kept = c.in-Ok.ensures.kept ∙ c.entries.invariant.kept;
    }

pub returns-in-Ok-finish-clause-ok : goal.returns-in-Ok-finish-clause-ok
returns-in-Ok-finish-clause-ok g c =
    let h = c.entries.invariant.history in
    record {
      history = h;
      said = all_said (g.S.Source.remaining c.args.source.now) (g.S.Source.remaining c.entries.source) (g.S.Source.remaining c.next.new.source) c.entries.reader c.next.new.self h c.entries.invariant.reads
          (rw c.in-None.is at c.in_ok-entry.ensures.ok);
      verified = subst (λ b. IsVerified b h c.in-Ok-finish.verified) c.entries.invariant.kept (c.in-Ok-finish.ensures.ok h c.entries.invariant.fed);
    }

pub returns-clause-err : goal.returns-clause-err
returns-clause-err g c =
    let given = g.S.Source.remaining c.args.source.now in
    let h = c.entries.invariant.history in
    subst (λ x. RefusesFile x given) (sym c.fault_of.ensures)
    (end_refuses c.in-Err-finish.fault given h
    (all_said given (g.S.Source.remaining c.entries.source) (g.S.Source.remaining c.next.new.source) c.entries.reader c.next.new.self h c.entries.invariant.reads (rw c.in-None.is at c.in_ok-entry.ensures.ok))
    (c.in-Err-finish.ensures.err h c.entries.invariant.fed))

pub feed-requires : goal.feed-requires
feed-requires g c = record { short = record { history = c.entries.invariant.history; fed = c.entries.invariant.fed; short = c.entries.invariant.reads.few } }

pub finish-requires : goal.finish-requires
finish-requires g c = record { short = record { history = c.entries.invariant.history; fed = c.entries.invariant.fed; short = c.entries.invariant.reads.few } }
