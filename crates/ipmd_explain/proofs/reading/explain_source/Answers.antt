use Rattle.std.proofs.Common.{[], ◌∷◌, ◌++◌, ◌≡◌, None, subst, sym, ap, ◌∙◌, inl, inr, List, ℕ}
use Rattle.std.proofs.KnownBytes.{Appends-nil, Keeps-refl}
use Rattle.std.specs.Prelude.{string_bytes}
use Rattle.std.specs.Io.KnownBytes.{Appends}
use Rattle.octet_io.specs.Device.{device_inner}
use Rattle.ipmd_commands.specs.declared.failure.Place.TheVariants.{Output}
use Rattle.ipmd_commands.specs.Failures.{FailedAt}
use Rattle.ipmd_commands.specs.HexText.{WritesSomeOf}
use Rattle.history_verify.proofs.FeedLaws.{err_map}
use Rattle.ipmd_verify.proofs.ReadingLaws.{all_said, begun, head_refuses, read_on, step_refuses}
use Rattle.ipmd_verify.specs.Found.{RefusesFile}
use Rattle.ipmd_explain.specs.declared.question.Question.{Question}
use Rattle.ipmd_explain.specs.Answers.{RefusesQuestion}
use Rattle.ipmd_explain.specs.Explaining.{absent_of, explained_at}
use Rattle.ipmd_explain.specs.Reading.{NamesEnd}
use Rattle.ipmd_explain.proofs.ReadingLaws.{end_explains, err_gives, ok_both, written_all, written_front, written_more}
use Rattle.ipmd_explain.proofs.reading.explain_source.Goals as goal

pub returns-in_err-reader-clause-err : goal.returns-in_err-reader-clause-err
returns-in_err-reader-clause-err g c =
    let given = g.S.Source.remaining c.args.source.now in
    err_gives c.from_residual.result c.from_residual.ensures
    (λ e is. (inl (subst (λ x. RefusesFile x given) (sym is) (head_refuses c.in_err-reader.field-0.0 given (g.S.Source.remaining c.start.new.source) _ _ c.in_err-reader.ensures.err)), inl (Keeps-refl _)))

pub entries-init : goal.entries-init
entries-init g c = record {
  history = [];
  reads = begun (g.S.Source.remaining c.args.source.now) (g.S.Source.remaining c.start.new.source) c.in_ok-reader.reader c.in_ok-reader.ensures.ok.0 c.in_ok-reader.ensures.ok.1 c.in_ok-reader.ensures.few c.in_ok-reader.ensures.ok.2;
  fed = c.in_ok-verifier.ensures.fed;
  question = c.in_ok-explainer.ensures.question;
  stands = c.in_ok-explainer.ensures.stands;
  written = Appends-nil (g.O.Write.contents (device_inner c.args.output.now));
}

pub returns-in_err-entry-clause-err : goal.returns-in_err-entry-clause-err
returns-in_err-entry-clause-err g c =
    let given = g.S.Source.remaining c.args.source.now in
    let inv = c.entries.invariant in
    err_gives c.from_residual-in_err-entry.result c.from_residual-in_err-entry.ensures
    (λ e is. (
      inl (subst (λ x. RefusesFile x given) (sym is)
          (step_refuses c.in_err-entry.field-0.0 given (g.S.Source.remaining c.entries.source) (g.S.Source.remaining c.next.new.source) c.entries.reader inv.history _ _ inv.reads c.in_err-entry.ensures.err)),
      inr (written_all c.args.question given _ _ (g.S.Source.remaining c.entries.source) c.entries.reader inv.history inv.reads inv.written),
    ))

pub take-requires : goal.take-requires
take-requires g c = let inv = c.entries.invariant in record { short = record { history = inv.history; fed = inv.fed; short = inv.reads.few } }

pub returns-in-Err-clause-err : goal.returns-in-Err-clause-err
returns-in-Err-clause-err g c =
    let given = g.S.Source.remaining c.args.source.now in
    let inv = c.entries.invariant in (
      inl (c.refusal.ensures given (inv.history ++ c.in-Some.entry ∷ [])
          (read_on given (g.S.Source.remaining c.entries.source) (g.S.Source.remaining c.next.new.source) c.entries.reader c.next.new.self inv.history c.in-Some.entry inv.reads (rw c.in-Some.is at c.in_ok-entry.ensures.ok))
          (c.in-Err.ensures.err inv.history inv.fed)),
      inr (written_all c.args.question given _ _ (g.S.Source.remaining c.entries.source) c.entries.reader inv.history inv.reads inv.written),
    )

pub end-requires : goal.end-requires
end-requires g c = let inv = c.entries.invariant in record { short = record { history = inv.history; fed = inv.fed; short = inv.reads.few } }

pub returns-clause-ok : goal.returns-clause-ok
returns-clause-ok g c =
    let given = g.S.Source.remaining c.args.source.now in
    let inv = c.entries.invariant in
    ok_both c.end.result c.end.ensures.legal c.end.ensures.there
    (λ legal there. record {
      history = inv.history;
      said = all_said given (g.S.Source.remaining c.entries.source) (g.S.Source.remaining c.next.new.source) c.entries.reader c.next.new.self inv.history inv.reads (rw c.in-None.is at c.in_ok-entry.ensures.ok);
      legal = legal inv.history inv.fed;
      there = subst (λ (q : Question). absent_of q inv.history ≡ None) inv.question (there inv.history inv.stands);
      written = inv.written;
    })

pub returns-clause-err : goal.returns-clause-err
returns-clause-err g c =
    let given = g.S.Source.remaining c.args.source.now in
    let inv = c.entries.invariant in
    err_map c.end.result c.end.ensures.err
    (λ e names. (
      end_explains c.args.question e given inv.history
          (all_said given (g.S.Source.remaining c.entries.source) (g.S.Source.remaining c.next.new.source) c.entries.reader c.next.new.self inv.history inv.reads (rw c.in-None.is at c.in_ok-entry.ensures.ok))
          (subst (λ (q : Question). NamesEnd q e inv.history) inv.question (names inv.history inv.fed inv.stands)),
      inr (written_all c.args.question given _ _ (g.S.Source.remaining c.entries.source) c.entries.reader inv.history inv.reads inv.written),
    ))

pub entries-preserved : goal.entries-preserved
entries-preserved g c =
    let given = g.S.Source.remaining c.args.source.now in
    let inv = c.entries.invariant in
    let taken = c.in-Ok.ensures.ok inv.history inv.fed inv.stands inv.reads.few in
    record {
      history = inv.history ++ c.in-Some.entry ∷ [];
      reads = read_on given (g.S.Source.remaining c.entries.source) (g.S.Source.remaining c.next.new.source) c.entries.reader c.next.new.self inv.history c.in-Some.entry inv.reads (rw c.in-Some.is at c.in_ok-entry.ensures.ok);
      fed = taken.fed;
      question = taken.taken.question ∙ inv.question;
      stands = taken.taken.stands;
      written = written_more c.args.question inv.history c.in-Some.entry (string_bytes c.in-Ok.text) _ _ _
          (subst (λ (q : Question). string_bytes c.in-Ok.text ≡ explained_at q inv.history c.in-Some.entry) inv.question taken.taken.said) inv.written
          (subst (λ (t : List ℕ). Appends (g.O.Write.contents (device_inner c.entries.output)) (g.O.Write.contents (device_inner c.put_text.new.output)) t) c.as_str.ensures.value c.in_ok-put_text-in-Ok.ensures.ok);
    }

pub returns-in_err-put_text-in-Ok-clause-err : goal.returns-in_err-put_text-in-Ok-clause-err
returns-in_err-put_text-in-Ok-clause-err g c =
    let given = g.S.Source.remaining c.args.source.now in
    let inv = c.entries.invariant in
    let taken = c.in-Ok.ensures.ok inv.history inv.fed inv.stands inv.reads.few in
    err_gives c.from_residual-in_err-put_text-in-Ok.result c.from_residual-in_err-put_text-in-Ok.ensures
    (λ e is. (
      inr (inr (subst (FailedAt Output) (sym is) c.in_err-put_text-in-Ok.ensures.err.0)),
      inr (written_front c.args.question given _ _ _ (g.S.Source.remaining c.next.new.source) c.next.new.self inv.history c.in-Some.entry (string_bytes c.in-Ok.text)
          (read_on given (g.S.Source.remaining c.entries.source) (g.S.Source.remaining c.next.new.source) c.entries.reader c.next.new.self inv.history c.in-Some.entry inv.reads (rw c.in-Some.is at c.in_ok-entry.ensures.ok))
          (subst (λ (q : Question). string_bytes c.in-Ok.text ≡ explained_at q inv.history c.in-Some.entry) inv.question taken.taken.said) inv.written
          (subst (λ (t : List ℕ). WritesSomeOf t (g.O.Write.contents (device_inner c.entries.output)) (g.O.Write.contents (device_inner c.put_text.new.output))) c.as_str.ensures.value c.in_err-put_text-in-Ok.ensures.err.1)),
    ))

pub returns-in_err-explainer-clause-err : goal.returns-in_err-explainer-clause-err
returns-in_err-explainer-clause-err g c =
    err_gives c.from_residual-in_err-explainer.result c.from_residual-in_err-explainer.ensures
    (λ e is. (inl (subst (λ x. RefusesFile x (g.S.Source.remaining c.args.source.now)) (sym is) tt), inl (Keeps-refl _)))
