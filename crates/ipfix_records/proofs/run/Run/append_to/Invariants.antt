use Rattle.std.proofs.Common.{◌≡◌, ◌++◌, map, take}
use Rattle.ipfix_template.specs.DataRecord.{kept_record}
use Rattle.ipfix_records.proofs.run.Run.append_to.Given as goal

abbrev pub invariant-loop-index : goal.invariant-loop-index
invariant-loop-index l = l.list.items ≡ l.fn.list.items ++ map (kept_record l.self.template) (take l.index l.self.texts)
