use Rattle.std.proofs.Common.{◌≡◌, ◌≤◌, ◌<◌, ◌+◌, ◌-◌, ℕ, List, get_or, arith}
use Rattle.std.specs.List.Sorted.{IsNonDecreasing}
use Rattle.rule_table.specs.Classes.{class_of}
use Rattle.rule_table.proofs.NarrowLaws.{cut_below}
use Rattle.rule_table.proofs.wide.first_of_class.Goals as goal

behind_it : (cuts : List ℕ) (address class place : ℕ) → IsNonDecreasing cuts → class ≡ class_of cuts address → place ≡ class → 0 < place → get_or cuts (place - 1) 0 + 1 ≤ address
behind_it cuts address class place up is same some = omega (arith, cut_below cuts address class (place - 1) up is (omega (arith, same, some)))

pub overflow_add-result : goal.overflow_add-result
overflow_add-result c = omega (arith, behind_it c.args.cuts.now c.args.address c.args.class c.from-place.result c.requires.ascending c.requires.class c.from-place.ensures c.if-place-gt0.true, c.ranges.address.fits)

pub returns-then-place-gt0-clause-above : goal.returns-then-place-gt0-clause-above
returns-then-place-gt0-clause-above c = behind_it c.args.cuts.now c.args.address c.args.class c.from-place.result c.requires.ascending c.requires.class c.from-place.ensures c.if-place-gt0.true
