use Rattle.std.proofs.Common.{◌≡◌, ◌<◌, ◌∙◌, Some, sym, subst, arith, rules}
use Rattle.std.specs.Prelude.{slice_get}
use Rattle.std.specs.Io.KnownBytes.{Appends}
use Rattle.event_journal.specs.Spelled.{IsSpelled}
use Rattle.std.proofs.lemmas.Result.{err_from_is_err_and}
use Rattle.std.proofs.lemmas.Option.{slice_get_within, get_or_from_slice_get}
use Rattle.journal_files.specs.Format.{head_octets, octets_of}
use Rattle.journal_files.proofs.FileWriting.{writing_start, writing_more, writing_end, writing_fault, stops_at_head, stops_at_entry}
use Rattle.journal_files.proofs.Gathered.{whatever_err}
use Rattle.journal_files.proofs.writing.write_journal.Goals as goal

pub returns-in_err-writer-clause-err : goal.returns-in_err-writer-clause-err
returns-in_err-writer-clause-err g c =
    whatever_err _ c.from_residual.result (stops_at_head c.in_err-writer.field-0.0 (g.S.Sink.contents c.args.sink.now) (g.S.Sink.contents c.start.new.sink) c.args.journal.now.entries c.len.result _ _ c.len.ensures.value c.in_err-writer.ensures.err)

pub returns-in_err-writer-clause-fault : goal.returns-in_err-writer-clause-fault
returns-in_err-writer-clause-fault g c =
    let p = err_from_is_err_and c.from_residual.result c.from_residual.ensures.1 in
    rw (p.1, p.2) (writing_fault c.in_err-writer.field-0.0 (g.S.Sink.contents c.args.sink.now) (g.S.Sink.contents c.start.new.sink) (head_octets c.len.result) _ _ c.in_err-writer.ensures.err)

pub entries-init : goal.entries-init
entries-init g c = record {
  writing = writing_start (g.S.Sink.contents c.args.sink.now) (g.S.Sink.contents c.start.new.sink) c.args.journal.now.entries c.in_ok-writer.writer (c.in_ok-writer.ensures.ok ∙ c.len.ensures.value)
      (subst (λ n. Appends (g.S.Sink.contents c.args.sink.now) (g.S.Sink.contents c.start.new.sink) (head_octets n)) c.len.ensures.value c.in_ok-writer.ensures.written);
  same = c.in_ok-writer.ensures.stays;
}

pub put-requires-clause-left : goal.put-requires-clause-left
put-requires-clause-left g c =
    let at : slice_get c.args.journal.now.entries c.entries.position ≡ Some c.in-Some.entry.now = sym c.in-Some.ensures in
    omega (arith, slice_get_within c.args.journal.now.entries c.entries.position c.in-Some.entry.now at, c.entries.invariant.writing.left_are)

pub put-requires-clause-spelled : goal.put-requires-clause-spelled
put-requires-clause-spelled g c =
    let at : slice_get c.args.journal.now.entries c.entries.position ≡ Some c.in-Some.entry.now = sym c.in-Some.ensures in
    subst IsSpelled (get_or_from_slice_get c.args.journal.now.entries c.entries.position c.in-Some.entry.now c.in-Some.entry.now at)
    (c.len.ensures.spelled c.entries.position c.in-Some.entry.now (slice_get_within c.args.journal.now.entries c.entries.position c.in-Some.entry.now at))

pub returns-in_err-put-clause-err : goal.returns-in_err-put-clause-err
returns-in_err-put-clause-err g c =
    whatever_err _ c.from_residual-in_err-put.result (stops_at_entry c.in_err-put.field-0.0 (g.S.Sink.contents c.args.sink.now) (g.S.Sink.contents c.entries.sink) (g.S.Sink.contents c.put.new.sink) c.args.journal.now.entries
    c.entries.position c.entries.writer c.in-Some.entry.now _ _ (sym c.in-Some.ensures) c.entries.invariant.writing c.in_err-put.ensures.err)

pub returns-in_err-put-clause-fault : goal.returns-in_err-put-clause-fault
returns-in_err-put-clause-fault g c =
    let p = err_from_is_err_and c.from_residual-in_err-put.result c.from_residual-in_err-put.ensures.1 in
    rw (p.1, p.2) (writing_fault c.in_err-put.field-0.0 (g.S.Sink.contents c.entries.sink) (g.S.Sink.contents c.put.new.sink) (octets_of c.in-Some.entry.now) _ _ c.in_err-put.ensures.err)

pub entries-preserved : goal.entries-preserved
entries-preserved g c =
    let at : slice_get c.args.journal.now.entries c.entries.position ≡ Some c.in-Some.entry.now = sym c.in-Some.ensures in
    let low = slice_get_within c.args.journal.now.entries c.entries.position c.in-Some.entry.now at in
    record {
      writing = writing_more (g.S.Sink.contents c.args.sink.now) (g.S.Sink.contents c.entries.sink) (g.S.Sink.contents c.put.new.sink) c.args.journal.now.entries c.entries.position c.entries.writer c.put.new.self c.in-Some.entry.now at (omega (arith, low))
          c.in_ok-put.ensures.left c.in_ok-put.ensures.written c.entries.invariant.writing;
      same = search rules;
    }

pub returns-clause-written : goal.returns-clause-written
returns-clause-written g c =
    writing_end (g.S.Sink.contents c.args.sink.now) (g.S.Sink.contents c.entries.sink) c.args.journal.now.entries c.entries.position c.entries.writer c.get.result c.in_default.not-Some c.get.ensures c.entries.invariant.writing
