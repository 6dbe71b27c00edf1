use Rattle.std.proofs.Common.{◌++◌, ◌∷◌, [], subst, sym, append_assoc}
use Rattle.ipmd_commands.specs.Status.{read_fault_of}
use Rattle.ipmd_verify.specs.Found.{RefusesFile}
use Rattle.ipmd_verify.specs.Reading.{IsReadTo}
use Rattle.ipmd_verify.proofs.ReadingLaws.{all_said, err_gives, read_on, step_refuses}
use Rattle.ipmd_verify.proofs.reading.read_rest.Goals as goal

pub returns-in_err-entry-clause-err : goal.returns-in_err-entry-clause-err
returns-in_err-entry-clause-err g c =
    err_gives c.from_residual.result c.from_residual.ensures
    (λ e is. λ given h to.
    let on = c.entries.invariant given h to in
    subst (λ x. RefusesFile (read_fault_of x) given) (sym is)
    (step_refuses c.in_err-entry.field-0.0 given (g.S.Source.remaining c.entries.source) (g.S.Source.remaining c.next.new.source) c.entries.reader (h ++ on.more) _ _ on.reads c.in_err-entry.ensures.err))

pub entries-preserved : goal.entries-preserved
entries-preserved g c = λ given h to.
    let on = c.entries.invariant given h to in
    record {
      more = on.more ++ c.in-Some.entry ∷ [];
      reads = subst (IsReadTo given (g.S.Source.remaining c.next.new.source) c.next.new.self) (append_assoc h on.more (c.in-Some.entry ∷ []))
          (read_on given (g.S.Source.remaining c.entries.source) (g.S.Source.remaining c.next.new.source) c.entries.reader c.next.new.self (h ++ on.more) c.in-Some.entry on.reads (rw c.in-Some.is at c.in_ok-entry.ensures.ok));
    }

pub returns-in-None-clause-ok : goal.returns-in-None-clause-ok
returns-in-None-clause-ok g c = λ given h to.
    let on = c.entries.invariant given h to in
    record {
      more = on.more;
      said = all_said given (g.S.Source.remaining c.entries.source) (g.S.Source.remaining c.next.new.source) c.entries.reader c.next.new.self (h ++ on.more) on.reads (rw c.in-None.is at c.in_ok-entry.ensures.ok);
    }
