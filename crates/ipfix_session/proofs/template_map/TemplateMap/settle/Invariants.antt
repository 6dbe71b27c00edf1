use Rattle.std.proofs.Common.{◌≡◌, ℕ, true, cond}
use Rattle.std.specs.Ordering.{nat_cmp}
use Rattle.std.specs.List.{list_any}
use Rattle.std.specs.List.Sorted.{IsStrictlySortedBy}
use Rattle.std.specs.BTreeMap.{is_at}
use Rattle.std.specs.BTreeSet.{contains}
use Rattle.ipfix_session.specs.TemplateMaps.{in_map, has_place}
use Rattle.ipfix_session.proofs.template_map.TemplateMap.settle.Given as goal

abbrev pub invariant-loop-id : goal.invariant-loop-id
invariant-loop-id l = record {
  ordered : IsStrictlySortedBy nat_cmp l.id-iterator;
  room : (q : ℕ) → has_place l.left q ≡ true → has_place l.self q ≡ true;
  settled : (q : ℕ) → cond (list_any (is_at (nat_cmp q)) l.id-iterator) (in_map l.left q) (in_map l.self q) ≡ cond (contains nat_cmp l.decided q) (in_map l.fn.defined q) (in_map l.fn.self q);
}
