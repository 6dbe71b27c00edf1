use Rattle.std.proofs.Common.{◌-◌, ◌+◌, ◌++◌, map, take, drop, refl, sym, ap, ◌∙◌, arith}
use Rattle.disclosure_audit.specs.Noting.{note_at}
use Rattle.disclosure_audit.specs.Queue.{stamp}
use Rattle.disclosure_audit.proofs.StretchLaws.{each_long, some_each, copying_begins, record_copied}
use Rattle.disclosure_audit.proofs.stretch.Stretch.copy_part.Goals as goal

pub nonzero_div-record : goal.nonzero_div-record
nonzero_div-record c = some_each c.args.all.now c.args.self.now c.args.skip c.args.most c.requires.within c.requires.there (omega (arith, c.if-most-eq0.false))

pub nonzero_rem-place : goal.nonzero_rem-place
nonzero_rem-place c = some_each c.args.all.now c.args.self.now c.args.skip c.args.most c.requires.within c.requires.there (omega (arith, c.if-most-eq0.false))

pub records-init : goal.records-init
records-init c = record {
  copying = copying_begins c.args.all.now c.args.self.now c.args.skip c.args.most _ _ _ c.requires.within c.requires.there (omega (arith, c.if-most-eq0.false)) c.requires.room;
  each_is = ap (λ n. take n (drop c.args.self.now.from c.args.all.now)) (omega arith);
  len_is = sym (each_long c.args.all.now c.args.self.now c.requires.within);
  room = refl;
}

pub records-preserved : goal.records-preserved
records-preserved c = record {
  copying =
      record_copied _ _ _ _ _ _ _ _ _ _ _ _ _ (c.records.place + c.min.result - c.records.place) c.records.invariant.copying c.records-test.true (omega (arith, c.min.ensures, c.records.invariant.len_is))
      (c.in_ok-copy_record.ensures.copied
      ∙ ap (λ e. c.records.out.items ++ map (stamp c.args.position) (map (note_at (c.args.self.now.first + c.records.record)) (take (c.records.place + c.min.result - c.records.place) (drop c.records.place e)))) c.records.invariant.each_is);
  each_is = c.records.invariant.each_is;
  len_is = c.records.invariant.len_is;
  room = c.copy_record.ensures.capacity ∙ c.records.invariant.room;
}
