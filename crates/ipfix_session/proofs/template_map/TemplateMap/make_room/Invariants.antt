use Rattle.std.proofs.Common.{◌≡◌, ℕ, true}
use Rattle.std.specs.Prelude.{◌||◌}
use Rattle.std.specs.Ordering.{nat_cmp}
use Rattle.std.specs.List.{list_any}
use Rattle.std.specs.BTreeMap.{is_at}
use Rattle.ipfix_session.specs.TemplateMaps.{shown_on, has_place}
use Rattle.ipfix_session.proofs.template_map.TemplateMap.make_room.Given as goal

abbrev pub invariant-loop-id : goal.invariant-loop-id
invariant-loop-id l = record {
  same : shown_on l.self ≡ shown_on l.fn.self;
  room : (q : ℕ) → has_place l.others q ≡ true → (has_place l.self q || list_any (is_at (nat_cmp q)) l.id-iterator) ≡ true;
}
