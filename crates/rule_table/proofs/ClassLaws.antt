-- Addresses of one class are inside the same prefixes.
use Rattle.std.proofs.Common.{◌≡◌, ◌↔◌, None, ◌⊎◌, ℕ, ◌+◌, ◌-◌, ◌*◌, ◌/◌, ◌^◌, ◌<◌, ◌≤◌, Bool, true, false, List, [], ◌∷◌, length, map, Some, cond, refl, ap, sym, ◌∙◌, subst, arith, inl, inr, ◌==◌, ◌&&◌}
use Rattle.std.specs.List.{Contains}
use Rattle.std.proofs.Math.Nat.{div-mul-le_self, lt-div-mul-add, div-lt_iff_lt-mul, pow-le-pow_right, mul-le-mul_right, add-mul}
use Rattle.std.proofs.lemmas.Nat.{pow-add, pow_pos, div-mul-add}
use Rattle.std.proofs.lemmas.Bool.{cases_lt, eqb-true, eq-eqb}
use Rattle.std.proofs.lemmas.List.{length-map}
use Rattle.std.proofs.lemmas.List.Sums.{count_by-le-length}
use Rattle.sequences.specs.Octets.{be_value}
use Rattle.flow_prefix.specs.declared.prefix.Prefix.{Prefix}
use Rattle.flow_prefix.specs.declared.prefix.Prefix.TheVariants.{V4, V6}
use Rattle.flow_prefix.specs.Net.{Net, IsNet, is_inside}
use Rattle.flow_prefix.specs.Prefixes.{IsPrefix, contains}
use Rattle.rule_table.specs.Cuts.{bounds_in, HasCuts, most_cuts}
use Rattle.rule_table.specs.Classes.{class_of, digit_of, class_key}
use Rattle.rule_table.proofs.CountLaws.{below_both}
use Rattle.rule_table.proofs.KeyLaws.{AreDigits, same_digits, none_past_three}

-- ---- what is inside stands between the bounds

same_head : {x y : ℕ} {xs ys : List ℕ} → (x ∷ xs) ≡ (y ∷ ys) → x ≡ y
same_head e = cc

same_tail : {x y : ℕ} {xs ys : List ℕ} → (x ∷ xs) ≡ (y ∷ ys) → xs ≡ ys
same_tail e = cc

-- the sum of an address and what its free bits hold
abbrev end_of : ℕ → Net → ℕ
end_of w net = net.address + (2 ^ (w - net.length) - 1)

between : (w : ℕ) (net : Net) (v : ℕ) → is_inside w net v ≡ true → (net.address ≤ v) × (v ≤ end_of w net)
between w net v e =
    let p = 2 ^ (w - net.length) in
    let positive : 0 < p = pow_pos (w - net.length) in
    let same : v / p * p ≡ net.address = eqb-true (v / p * p) net.address e in
    let low : v / p * p ≤ v = div-mul-le_self v p in
    let high : v < v / p * p + p = lt-div-mul-add positive in
    (omega (arith, same, low), omega (arith, same, high, positive))

inside : (w : ℕ) (net : Net) (v : ℕ) → IsNet w net.address net.length → (net.address ≤ v) × (v ≤ end_of w net) → is_inside w net v ≡ true
inside w net v sound (low, high) =
    let p = 2 ^ (w - net.length) in
    let positive : 0 < p = pow_pos (w - net.length) in
    let clear : net.address / p * p ≡ net.address = sound.clear in
    let parts : v ≡ net.address / p * p + (v - net.address) = omega (arith, clear, low) in
    let quotient : v / p ≡ net.address / p = ap (λ n. n / p) parts ∙ div-mul-add (net.address / p) p (v - net.address) (omega (arith, low, high, positive)) in
    eq-eqb (v / p * p) net.address (ap (λ q. q * p) quotient ∙ clear)

-- the last address inside a prefix has no more bits than its width
end_fits : (w : ℕ) (net : Net) → IsNet w net.address net.length → w ≤ 128 → end_of w net < 2 ^ 128
end_fits w net sound wide =
    let l = net.length in
    let p = 2 ^ (w - l) in
    let q = net.address / p in
    let positive : 0 < p = pow_pos (w - l) in
    let clear : q * p ≡ net.address = sound.clear in
    let whole : 2 ^ w ≡ 2 ^ l * p = ap (λ n. 2 ^ n) (let e : w ≡ l + (w - l) = omega (arith, sound.within) in e) ∙ pow-add 2 l (w - l) in
    let below : net.address < 2 ^ l * p = omega (arith, sound.below, whole) in
    let less : q < 2 ^ l = (div-lt_iff_lt-mul positive).1 below in
    let up : (q + 1) * p ≤ 2 ^ l * p = mul-le-mul_right p (omega (arith, less)) in
    let sum : (q + 1) * p ≡ q * p + 1 * p = add-mul q 1 p in
    let most : 2 ^ w ≤ 2 ^ 128 = pow-le-pow_right (omega arith) wide in
    omega (arith, clear, whole, up, sum, most, positive)

last_is : (w : ℕ) (net : Net) → IsNet w net.address net.length → w ≤ 128 → (bounds_in w net).last ≡ end_of w net
last_is w net sound wide = let fits : end_of w net < 2 ^ 128 = end_fits w net sound wide in omega (arith, fits)

-- ---- two addresses of a class

-- the cuts at the bounds of a prefix of w bits
abbrev HasEnds : List ℕ → ℕ → Net → Type 0
HasEnds cuts w net = (0 < net.address → Contains cuts (net.address - 1)) × Contains cuts (end_of w net)

reaches : (cuts : List ℕ) (a v u : ℕ) → class_of cuts v ≡ class_of cuts u → (0 < a → Contains cuts (a - 1)) → a ≤ v → (0 < a) ⊎ (a ≤ 0) → a ≤ u
reaches cuts a v u same has low (inl l) = let below : a - 1 < u = below_both cuts v u (a - 1) same (has l) (omega arith) in omega (arith, below)
reaches cuts a v u same has low (inr l) = omega arith

ends : (cuts : List ℕ) (at v u : ℕ) → class_of cuts v ≡ class_of cuts u → Contains cuts at → v ≤ at → (at < u) ⊎ (u ≤ at) → u ≤ at
ends cuts at v u same there high (inl l) = let below : at < v = below_both cuts u v at (sym same) there l in absurd (omega (arith, below))
ends cuts at v u same there high (inr l) = l

moved : (cuts : List ℕ) (w : ℕ) (net : Net) (v u : ℕ) → IsNet w net.address net.length → HasEnds cuts w net → class_of cuts v ≡ class_of cuts u → is_inside w net v ≡ true → is_inside w net u ≡ true
moved cuts w net v u sound (has, there) same e =
    let (low, high) = between w net v e in
    inside w net u sound (reaches cuts net.address v u same has low (cases_lt 0 net.address), ends cuts (end_of w net) v u same there high (cases_lt (end_of w net) u))

both_ways : (b c : Bool) → (b ≡ true → c ≡ true) → (c ≡ true → b ≡ true) → b ≡ c
both_ways true c to from = sym (to refl)
both_ways false true to from = from refl
both_ways false false to from = refl

same_inside : (cuts : List ℕ) (w : ℕ) (net : Net) (v u : ℕ) → IsNet w net.address net.length → HasEnds cuts w net → class_of cuts v ≡ class_of cuts u → is_inside w net v ≡ is_inside w net u
same_inside cuts w net v u sound has same =
    both_ways (is_inside w net v) (is_inside w net u) (λ e. moved cuts w net v u sound has same e) (λ e. moved cuts w net u v sound has (sym same) e)

-- ---- two values of a digit

-- a digit, by whether the value has 4 octets, or else 16
abbrev digit_by : Bool → Bool → ℕ → ℕ
digit_by four sixteen class = cond four (2 * class + 1) (cond sixteen (2 * class + 2) 0)

odd : (f s g t : Bool) (c d : ℕ) → digit_by f s c ≡ digit_by g t d → (f ≡ g) × (f ≡ true → c ≡ d)
odd true s true t c d e = (refl, λ _. omega (arith, e))
odd true s false true c d e = absurd (omega (arith, e))
odd true s false false c d e = absurd (omega (arith, e))
odd false true true t c d e = absurd (omega (arith, e))
odd false false true t c d e = absurd (omega (arith, e))
odd false s false t c d e = (refl, λ h. absurd (cc))

even : (f s g t : Bool) (c d : ℕ) → (f ≡ true → s ≡ false) → (g ≡ true → t ≡ false) → digit_by f s c ≡ digit_by g t d → (s ≡ t) × (s ≡ true → c ≡ d)
even true s true t c d one other e = (one refl ∙ sym (other refl), λ h. let no = one refl in absurd (cc))
even true s false true c d one other e = absurd (omega (arith, e))
even true s false false c d one other e = absurd (omega (arith, e))
even false true true t c d one other e = absurd (omega (arith, e))
even false false true t c d one other e = absurd (omega (arith, e))
even false true false true c d one other e = (refl, λ _. omega (arith, e))
even false true false false c d one other e = absurd (omega (arith, e))
even false false false true c d one other e = absurd (omega (arith, e))
even false false false false c d one other e = (refl, λ h. absurd (cc))

and_same : (f g b c : Bool) → f ≡ g → (f ≡ true → b ≡ c) → (f && b) ≡ (g && c)
and_same true true b c e same = same refl
and_same true false b c e same = absurd (cc)
and_same false true b c e same = absurd (cc)
and_same false false b c e same = refl

not_sixteen : (n : ℕ) → (n == 4) ≡ true → (n == 16) ≡ false
not_sixteen n e = let four : n ≡ 4 = eqb-true n 4 e in rw four refl

same_contains : (cuts : List ℕ) (prefix : Prefix) (v u : List ℕ) → IsPrefix prefix → HasCuts cuts prefix → digit_of cuts v ≡ digit_of cuts u → contains prefix v ≡ contains prefix u
unfolding digit_of
same_contains cuts (V4 net) v u sound has e =
    let both = odd (length v == 4) (length v == 16) (length u == 4) (length u == 16) (class_of cuts (be_value v)) (class_of cuts (be_value u)) e in
    let there : Contains cuts (end_of 32 net) = subst (λ n. Contains cuts n) (last_is 32 net sound (omega arith)) has.last in
    and_same (length v == 4) (length u == 4) _ _ both.0 (λ h. same_inside cuts 32 net (be_value v) (be_value u) sound (has.before, there) (both.1 h))
same_contains cuts (V6 net) v u sound has e =
    let both = even (length v == 4) (length v == 16) (length u == 4) (length u == 16) (class_of cuts (be_value v)) (class_of cuts (be_value u)) (not_sixteen (length v)) (not_sixteen (length u)) e in
    let there : Contains cuts (end_of 128 net) = subst (λ n. Contains cuts n) (last_is 128 net sound (omega arith)) has.last in
    and_same (length v == 16) (length u == 16) _ _ both.0 (λ h. same_inside cuts 128 net (be_value v) (be_value u) sound (has.before, there) (both.1 h))

-- ---- two lists of values of a key

small_by : (f s : Bool) (c : ℕ) → c ≤ most_cuts → digit_by f s c < 65536
small_by true s c few = omega (arith, few)
small_by false true c few = omega (arith, few)
small_by false false c few = omega arith

small : (cuts : List ℕ) (octets : List ℕ) → length cuts ≤ most_cuts → digit_of cuts octets < 65536
unfolding digit_of
small cuts octets few =
    let most : class_of cuts (be_value octets) ≤ length cuts = count_by-le-length _ cuts in
    small_by (length octets == 4) (length octets == 16) (class_of cuts (be_value octets)) (omega (arith, most, few))

all_small : (cuts : List ℕ) (values : List (List ℕ)) → length cuts ≤ most_cuts → AreDigits (map (digit_of cuts) values)
all_small cuts [] few = tt
all_small cuts (v ∷ vs) few = (small cuts v few, all_small cuts vs few)

each_same : (cuts : List ℕ) (prefix : Prefix) (vs ws : List (List ℕ)) → IsPrefix prefix → HasCuts cuts prefix → map (digit_of cuts) vs ≡ map (digit_of cuts) ws → map (contains prefix) vs ≡ map (contains prefix) ws
each_same cuts prefix [] [] sound has e = refl
each_same cuts prefix [] (w ∷ ws) sound has e = absurd (cc)
each_same cuts prefix (v ∷ vs) [] sound has e = absurd (cc)
each_same cuts prefix (v ∷ vs) (w ∷ ws) sound has e =
    let first : digit_of cuts v ≡ digit_of cuts w = same_head e in
    let rest : map (digit_of cuts) vs ≡ map (digit_of cuts) ws = same_tail e in
    let one : contains prefix v ≡ contains prefix w = same_contains cuts prefix v w sound has first in
    let others : map (contains prefix) vs ≡ map (contains prefix) ws = each_same cuts prefix vs ws sound has rest in
    ap (λ b. b ∷ map (contains prefix) vs) one ∙ ap (λ bs. contains prefix w ∷ bs) others

-- where the keys of two lists of values are the same, a prefix has the same of them inside
pub same_key : (cuts : List ℕ) (prefix : Prefix) (vs ws : List (List ℕ)) (k : ℕ) → length cuts ≤ most_cuts → IsPrefix prefix → HasCuts cuts prefix
    → class_key cuts vs ≡ Some k → class_key cuts ws ≡ Some k → map (contains prefix) vs ≡ map (contains prefix) ws
same_key cuts prefix vs ws k few sound has one other =
    each_same cuts prefix vs ws sound has (same_digits (map (digit_of cuts) vs) (map (digit_of cuts) ws) k (all_small cuts vs few) (all_small cuts ws few) one other)

pub key_of_three : (cuts : List ℕ) (vs : List (List ℕ)) → length cuts ≤ most_cuts → (class_key cuts vs ≡ None) ↔ (3 < length vs)
key_of_three cuts vs few =
    let counted : length (map (digit_of cuts) vs) ≡ length vs = length-map vs (digit_of cuts) in
    subst (λ n. (class_key cuts vs ≡ None) ↔ (3 < n)) counted (none_past_three (map (digit_of cuts) vs) (all_small cuts vs few))
