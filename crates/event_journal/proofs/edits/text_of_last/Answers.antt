use Rattle.std.proofs.Common.{arith}
use Rattle.event_journal.proofs.EditLaws.{edit_found, no_edit}
use Rattle.event_journal.proofs.edits.text_of_last.Goals as goal

pub returns-in-Some : goal.returns-in-Some
returns-in-Some c =
    edit_found c.args.entries.now c.entries.left c.index-entries-left.result c.in-Some.text.now
    c.entries-test.true c.entries.invariant.within c.index-entries-left.is c.entries.invariant.same c.in-Some.ensures

pub entries-preserved : goal.entries-preserved
entries-preserved c = record {
  within = omega (arith, c.entries.invariant.within);
  same =
      no_edit c.args.entries.now c.entries.left c.index-entries-left.result c.text_of.result
      c.entries-test.true c.entries.invariant.within c.index-entries-left.is c.entries.invariant.same c.in_default.not-Some c.text_of.ensures;
}
