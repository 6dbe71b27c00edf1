use Rattle.std.proofs.Common.{◌≡◌, length, Some, sym, arith}
use Rattle.std.specs.Prelude.{slice_get}
use Rattle.std.proofs.lemmas.Option.{slice_get_within}
use Rattle.journal_files.specs.Format.{head_octets}
use Rattle.journal_files.proofs.HistoryLaws.{written_more, written_all}
use Rattle.journal_files.proofs.encoding.encode.Goals as goal

pub entries-preserved : goal.entries-preserved
entries-preserved c =
    let at : slice_get c.args.journal.now.entries c.entries.position ≡ Some c.in-Some.entry.now = sym c.in-Some.ensures in
    let low = slice_get_within c.args.journal.now.entries c.entries.position c.in-Some.entry.now at in
    record {
      within = omega (arith, low);
      written = written_more c.entries.file.items c.put_entry.new.out.items (head_octets (length c.args.journal.now.entries)) c.args.journal.now.entries c.entries.position c.in-Some.entry.now at c.entries.invariant.written c.in_ok-put_entry.ensures;
    }

pub returns : goal.returns
returns c =
    written_all c.entries.file.items (head_octets (length c.args.journal.now.entries)) c.args.journal.now.entries c.entries.position c.get.result c.in_default.not-Some c.get.ensures c.entries.invariant.written
