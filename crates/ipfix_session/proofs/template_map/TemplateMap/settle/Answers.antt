use Rattle.std.proofs.Common.{◌≡◌, cond, ◌∷◌, None, ap, ◌∙◌, false, Bool}
use Rattle.std.specs.Option.{option_map}
use Rattle.std.specs.Arc.{arc_value}
use Rattle.std.specs.Ordering.{nat_cmp}
use Rattle.std.specs.BTreeSet.{contains}
use Rattle.std.specs.List.Sorted.{IsStrictlySortedBy}
use Rattle.std.proofs.lemmas.Map.Keys.{sorted_tail}
use Rattle.ipfix_session.specs.TemplateMaps.{in_map, has_place}
use Rattle.ipfix_session.proofs.MapSteps.{settled_then, room_then}
use Rattle.ipfix_session.proofs.template_map.TemplateMap.settle.Goals as goal

pub loop-id-preserved-in-Some-take : goal.loop-id-preserved-in-Some-take
loop-id-preserved-in-Some-take c =
    let id = c.in-Some.id.now in
    let left : c.loop-id.id-iterator ≡ id ∷ c.next.new.self = c.in-Some.ensures.steps in
    let ordered : IsStrictlySortedBy nat_cmp (id ∷ c.next.new.self) = rw left at c.loop-id.invariant.ordered in
    record {
      ordered = sorted_tail nat_cmp id c.next.new.self ordered;
      room = λ q. room_then _ (has_place c.loop-id.left q) (has_place c.take.new.self q) (has_place c.loop-id.self q) (has_place c.fill.new.self q) (c.in-Some-take.ensures.places q) (λ apart. c.fill.ensures.places q) (c.loop-id.invariant.room q);
      settled = settled_then id c.next.new.self (in_map c.loop-id.left) (in_map c.take.new.self) (in_map c.loop-id.self) (in_map c.fill.new.self) (λ q. cond (contains nat_cmp c.args.decided.now q) (in_map c.args.defined q) (in_map c.args.self.now q))
          (option_map arc_value c.in-Some-take.template) ordered c.in-Some-take.ensures.taken c.in-Some-take.ensures.others c.fill.ensures.filled (rw left at c.loop-id.invariant.settled);
    }

pub loop-id-preserved : goal.loop-id-preserved
loop-id-preserved c =
    let id = c.in-Some.id.now in
    let left : c.loop-id.id-iterator ≡ id ∷ c.next.new.self = c.in-Some.ensures.steps in
    let ordered : IsStrictlySortedBy nat_cmp (id ∷ c.next.new.self) = rw left at c.loop-id.invariant.ordered in
    record {
      ordered = sorted_tail nat_cmp id c.next.new.self ordered;
      room = λ q. room_then _ (has_place c.loop-id.left q) (has_place c.take.new.self q) (has_place c.loop-id.self q) (has_place c.remove.new.self q) (c.in-None-take.ensures.places q) (λ apart. c.remove.ensures.places q ∙ ap (λ (b : Bool). cond b false (has_place c.loop-id.self q)) apart) (c.loop-id.invariant.room q);
      settled = settled_then id c.next.new.self (in_map c.loop-id.left) (in_map c.take.new.self) (in_map c.loop-id.self) (in_map c.remove.new.self) (λ q. cond (contains nat_cmp c.args.decided.now q) (in_map c.args.defined q) (in_map c.args.self.now q))
          None ordered c.in-None-take.ensures.taken c.in-None-take.ensures.others c.remove.ensures.others (rw left at c.loop-id.invariant.settled);
    }
