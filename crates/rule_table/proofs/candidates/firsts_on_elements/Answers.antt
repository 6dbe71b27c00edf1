use Rattle.std.proofs.Common.{arith}
use Rattle.std.specs.Ordering.{nat_cmp}
use Rattle.std.specs.BTreeMap.{get}
use Rattle.rule_table.specs.Candidates.{passes}
use Rattle.rule_table.specs.Firsts.{is_on_element, element_key}
use Rattle.rule_table.proofs.KeptLaws.{find_next}
use Rattle.rule_table.proofs.candidates.firsts_on_elements.Goals as goal

pub loop-place-preserved : goal.loop-place-preserved
loop-place-preserved c = λ e below.
    find_next (passes (is_on_element e) c.args.rules.now) c.args.places.now c.loop-place.place-index _ (get nat_cmp c.note_first.new.firsts (element_key e)) (omega arith) (c.loop-place.invariant e below) (c.in_ok-note_first.ensures e below)
