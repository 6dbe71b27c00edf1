use Rattle.std.proofs.Common.{◌≡◌, ◌<◌, take}
use Rattle.std.specs.List.{find}
use Rattle.std.specs.Ordering.{nat_cmp}
use Rattle.std.specs.BTreeMap.{get}
use Rattle.ipfix_element.specs.Element.{Element}
use Rattle.rule_table.specs.Candidates.{passes}
use Rattle.rule_table.specs.Firsts.{is_on_element, element_key}
use Rattle.rule_table.proofs.candidates.firsts_on_elements.Given as goal

abbrev pub invariant-loop-place : goal.invariant-loop-place
invariant-loop-place l = (e : Element) → e.number < 32768 → get nat_cmp l.firsts (element_key e) ≡ find (passes (is_on_element e) l.rules) (take l.place-index l.places)
