use Rattle.std.proofs.Common.{◌≡◌, ◌<◌, length, arith, subst, sym, ap, ◌∙◌, ◌++◌, ◌∷◌, [], List, set, bit_xor, ◌%◌}
use Rattle.flow_anonymize.specs.declared.slot.Slot.{Slot}
use Rattle.flow_anonymize.specs.PlanCache.{IsOpen, IsPut, CacheOf}
use Rattle.flow_anonymize.proofs.CacheLaws.{open_push, put_push, put_set}
use Rattle.flow_anonymize.proofs.plan_cache.PlanCache.keep.Goals as goal

pub invariant_of-self-then-count-lt-MOST_PLANS : goal.invariant_of-self-then-count-lt-MOST_PLANS
invariant_of-self-then-count-lt-MOST_PLANS c =
    subst (λ (slots : List Slot). IsOpen slots c.self.inside.output.writing c.self.inside.open_place) (sym c.in_ok-push.ensures.items) (open_push c.self.inside.slots.items c.args.slot c.self.inside.output.writing c.self.inside.open_place c.self.invariant)

pub returns-then-count-lt-MOST_PLANS-clause-put : goal.returns-then-count-lt-MOST_PLANS-clause-put
returns-then-count-lt-MOST_PLANS-clause-put c =
    let slots : c.self.inside.slots.items ≡ c.args.self.now.slots = ap (λ (s : CacheOf). s.slots) c.self.view_is in
    put_push c.args.self.now.slots c.push.new.self.items c.args.slot c.len-count.result (omega (arith, c.len-count.ensures, ap length slots)) (c.in_ok-push.ensures.items ∙ ap (λ (xs : List Slot). xs ++ c.args.slot ∷ []) slots)

pub returns-clause-put : goal.returns-clause-put
returns-clause-put c =
    let slots : c.self.inside.slots.items ≡ c.args.self.now.slots = ap (λ (s : CacheOf). s.slots) c.self.view_is in
    let place = bit_xor c.args.slot.classes.sources c.args.slot.classes.destinations % 16 in
    let low : place < length c.args.self.now.slots = omega (arith, c.len-count.ensures, ap length slots, c.if-count-lt-MOST_PLANS.false) in
    subst (λ (xs : List Slot). IsPut c.args.self.now.slots c.args.slot place (set xs place c.args.slot)) (sym slots) (put_set c.args.self.now.slots c.args.slot place low)
