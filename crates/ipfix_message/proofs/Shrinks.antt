-- What stands at the front takes some octets.
use Rattle.std.proofs.Common.{◌≡◌, ℕ, zero, suc, ◌+◌, ◌-◌, ◌≤◌, Bool, true, false, ltb, eqb, List, ◌∷◌, length, take, drop, Option, Some, None, Result, Ok, Err, arith, length-drop}
use Rattle.std.specs.Prelude.{◌||◌, IfSome}
use Rattle.std.proofs.lemmas.Bool.{ltb-false, or_parts, cond_both}
use Rattle.ipfix_template.specs.Octets.{number_at}
use Rattle.ipfix_template.specs.Sequence.{TakesSome}
use Rattle.ipfix_template.specs.declared.template.Template.{Template}
use Rattle.sequences.specs.Options.{◌>>=◌}
use Rattle.sequences.proofs.SequenceLaws.{Lessens, takes_some}
use Rattle.ipfix_message.specs.declared.fault.Fault.{Fault}
use Rattle.ipfix_message.specs.declared.item.Item.{Item}
use Rattle.ipfix_message.specs.Reading.{field_at, fields_at, scoped_at, template_at, found_template, template_front, set_items, found_set, set_front}

-- what was found leaves no more than this
abbrev LeavesAtMost : {A : Type 0} → ℕ → Option (A × List ℕ) → Type 0
LeavesAtMost n found = IfSome found (λ f. length f.1 ≤ n)

LeavesAtMost-bind : {A B : Type 0} (n : ℕ) (o : Option (A × List ℕ)) (f : A × List ℕ → Option (B × List ℕ)) → LeavesAtMost n o → ((x : A × List ℕ) → LeavesAtMost (length x.1) (f x)) → LeavesAtMost n (o >>= f)
LeavesAtMost-bind n None f h step = tt
LeavesAtMost-bind {A} {B} n (Some x) f h step = weaker (f x) (step x) where
  weaker : (r : Option (B × List ℕ)) → LeavesAtMost (length x.1) r → LeavesAtMost n r
  weaker None g = tt
  weaker (Some y) g = omega (arith, h, g)

field_leaves : (octets : List ℕ) → LeavesAtMost (length octets) (field_at octets)
unfolding field_at
field_leaves octets =
    cond_both (ltb (length octets) 4) _ _ (LeavesAtMost (length octets)) (λ _. tt)
    (λ _. cond_both (ltb (number_at 0 2 octets) 32768) _ _ (LeavesAtMost (length octets)) (λ _. omega (arith, length-drop 4 octets))
    (λ _. cond_both (ltb (length octets) 8) _ _ (LeavesAtMost (length octets)) (λ _. tt) (λ _. omega (arith, length-drop 8 octets))))

fields_leave : (count : ℕ) (octets : List ℕ) → LeavesAtMost (length octets) (fields_at count octets)
unfolding fields_at
fields_leave zero octets = omega arith
fields_leave (suc count) octets =
    LeavesAtMost-bind (length octets) (field_at octets) (λ field. fields_at count field.1 >>= λ others. Some (field.0 ∷ others.0, others.1)) (field_leaves octets)
    (λ field. LeavesAtMost-bind (length field.1) (fields_at count field.1) (λ others. Some (field.0 ∷ others.0, others.1)) (fields_leave count field.1) (λ others. omega arith))

scoped_leaves : (scope count : ℕ) (octets : List ℕ) → LeavesAtMost (length octets) (scoped_at scope count octets)
unfolding scoped_at
scoped_leaves scope count octets =
    LeavesAtMost-bind (length octets) (fields_at count octets) (λ fields. Some (record { fields = fields.0; scope = scope }, fields.1)) (fields_leave count octets) (λ fields. omega arith)

template_leaves : (options : Bool) (count : ℕ) (octets : List ℕ) → LeavesAtMost (length octets) (template_at options count octets)
unfolding template_at
template_leaves false count octets = scoped_leaves 0 count octets
template_leaves true count octets =
    cond_both (ltb (length octets) 2) _ _ (LeavesAtMost (length octets)) (λ _. tt)
    (λ _. weaker (scoped_at (number_at 0 2 octets) count (drop 2 octets)) (scoped_leaves (number_at 0 2 octets) count (drop 2 octets))) where
      weaker : (r : Option (Template × List ℕ)) → LeavesAtMost (length (drop 2 octets)) r → LeavesAtMost (length octets) r
      weaker None g = tt
      weaker (Some y) g = omega (arith, g, length-drop 2 octets)

pub template_takes : (options : Bool) → TakesSome (template_front options)
unfolding template_front
template_takes options =
    takes_some (template_front options)
    (λ octets. cond_both (ltb (length octets) 4) _ _ (Lessens (length octets)) (λ _. tt)
    (λ long. cond_both (eqb (number_at 2 2 octets) 0) _ _ (Lessens (length octets))
    (λ _. let some = ltb-false _ _ long in omega (arith, some, length-drop 4 octets))
    (λ _. found octets (number_at 0 2 octets) (template_at options (number_at 2 2 octets) (drop 4 octets)) (ltb-false _ _ long) (template_leaves options (number_at 2 2 octets) (drop 4 octets))))) where
      found : (octets : List ℕ) (id : ℕ) (r : Option (Template × List ℕ)) → 4 ≤ length octets → LeavesAtMost (length (drop 4 octets)) r → Lessens (length octets) (found_template options id r)
      found octets id None some g = tt
      found octets id (Some y) some g = omega (arith, g, length-drop 4 octets)

pub set_takes : (total : ℕ) → TakesSome (set_front total)
unfolding set_front
set_takes total =
    takes_some (set_front total)
    (λ octets. cond_both (eqb (length octets) 0) _ _ (Lessens (length octets)) (λ _. tt)
    (λ _. cond_both (ltb (length octets) 4) _ _ (Lessens (length octets)) (λ _. tt)
    (λ _. cond_both (ltb (number_at 2 2 octets) 4 || ltb (length octets) (number_at 2 2 octets)) _ _ (Lessens (length octets)) (λ _. tt)
    (λ fits. found octets (set_items (number_at 0 2 octets) (total - length octets + 4) (take (number_at 2 2 octets - 4) (drop 4 octets))) fits)))) where
      found : (octets : List ℕ) (r : Result (List Item) Fault) → (ltb (number_at 2 2 octets) 4 || ltb (length octets) (number_at 2 2 octets)) ≡ false → Lessens (length octets) (found_set r (drop (number_at 2 2 octets) octets))
      found octets (Err e) fits = tt
      found octets (Ok items) fits =
          let both = or_parts (ltb (number_at 2 2 octets) 4) (ltb (length octets) (number_at 2 2 octets)) fits in
          let least = ltb-false _ _ both.0 in
          let most = ltb-false _ _ both.1 in
          omega (arith, least, most, length-drop (number_at 2 2 octets) octets)
