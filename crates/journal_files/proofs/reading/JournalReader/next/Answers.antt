use Rattle.std.proofs.Common.{rules, subst, ◌≡◌, [], List, ℕ}
use Rattle.journal_files.specs.Reading.{entry_of}
use Rattle.std.proofs.lemmas.Result.{err_from_is_err_and}
use Rattle.journal_files.proofs.Decided.{filled_true}
use Rattle.journal_files.proofs.EntryRead.{found}
use Rattle.journal_files.proofs.Stays.{read_alone}
use Rattle.journal_files.proofs.Stopping.{shows_more, stops_step, entry_stops}
use Rattle.journal_files.proofs.reading.JournalReader.next.Goals as goal

pub returns-then-branch-clause-err : goal.returns-then-branch-clause-err
returns-then-branch-clause-err g c =
    shows_more c.self.inside.left c.self.inside.count c.self.inside.octets c.args.self.now _ _ c.clear.new.self.items c.fill.new.held.items _ _ c.self.view_is c.if-self-eq0.true c.clear.ensures.items c.in_ok-fill.ensures.gathers
    (filled_true c.in_ok-fill.field-0 1 c.fill.new.held.items _ c.if-branch.true c.in_ok-fill.ensures.filled) c.in_ok-fill.ensures.stays

pub returns-in_err-gather-clause-err : goal.returns-in_err-gather-clause-err
returns-in_err-gather-clause-err g c =
    let p = err_from_is_err_and c.from_residual-in_err-gather.result c.from_residual-in_err-gather.ensures.1 in
    rw (p.1, p.2) (stops_step c.self.inside.left c.self.inside.count c.self.inside.octets c.args.self.now c.in_err-gather.field-0.0 _ _ _ _ c.self.view_is c.if-self-eq0.false (c.in_err-gather.ensures.err c.args.self.now))

pub returns-in_err-entry-clause-err : goal.returns-in_err-entry-clause-err
returns-in_err-entry-clause-err g c =
    let p = err_from_is_err_and c.from_residual-in_err-entry.result c.from_residual-in_err-entry.ensures.1 in
    rw (p.1, p.2) (entry_stops c.self.inside.left c.self.inside.count c.self.inside.octets c.args.self.now c.in_err-entry.field-0.0 _ _ c.gather.new.held.items c.as_slice.result.now _ _ c.self.view_is c.if-self-eq0.false c.as_slice.ensures.value c.in_err-entry.ensures.err c.in_ok-gather.ensures.gathers c.in_ok-gather.ensures.gathered c.in_ok-gather.ensures.stays)

pub returns-clause-ok : goal.returns-clause-ok
returns-clause-ok g c =
    let is = c.in_ok-entry.ensures.ok in
    let entry = c.in_ok-entry.entry in
    let none : is.rest ≡ [] = c.in_ok-gather.ensures.gathered.whole entry is.rest (subst (λ (held : List ℕ). entry_of held ≡ found entry is.rest) c.as_slice.ensures.value is.read) in
    record {
      some = search rules;
      consumed = search rules;
      within = search rules;
      read_back = read_alone c.as_slice.result.now is.rest entry is.read is.written none;
      place = search rules;
    }
