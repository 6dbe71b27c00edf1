-- The cuts of rules, listed and sorted.
use Rattle.std.proofs.Common.{◌≡◌, ◌⊎◌, ℕ, ◌+◌, ◌-◌, ◌*◌, ◌<◌, ◌≤◌, eqb, get_or, inl, inr, Bool, true, false, List, [], ◌∷◌, ◌++◌, length, Option, Some, None, IfSome, cond, refl, ap, sym, subst, arith, nat_lt, length-append}
use Rattle.std.specs.List.{Contains, dedup, flat_map}
use Rattle.std.specs.List.Sorted.{IsNonDecreasing, IsStrictlyIncreasing, IsPermutation}
use Rattle.std.proofs.lemmas.Bool.{cases_lt, lt-ltb}
use Rattle.std.proofs.lemmas.List.Kept.{Contains-dedup_nat, AllPairs-from_increasing}
use Rattle.std.proofs.lemmas.List.Concat.{flat_map-cons}
use Rattle.std.proofs.lemmas.List.Sorted.{Contains-permutation, length_permutation}
use Rattle.std.proofs.lemmas.List.Elements.{Contains-append_left, Contains-append_right}
use Rattle.flow_prefix.specs.declared.prefix.Prefix.{Prefix}
use Rattle.policy_text.specs.declared.rule.Rule.{Rule}
use Rattle.rule_table.specs.declared.cuts.Bounds.{Bounds}
use Rattle.rule_table.specs.Cuts.{bounds_of, cuts_named, cuts_of, HasCuts, HasRuleCuts, HaveCuts}

-- all of the first are among the second
abbrev pub Among : List ℕ → List ℕ → Type 0
Among xs ys = (x : ℕ) → Contains xs x → Contains ys x

-- ---- at most four for a rule

few_at : (bounds : Bounds) (b : Bool) → length (cond b ((bounds.first - 1) ∷ bounds.last ∷ []) (bounds.last ∷ [])) ≤ 2
few_at bounds true = omega arith
few_at bounds false = omega arith

few_named : (named : Option Prefix) → length (cuts_named named) ≤ 2
few_named None = omega arith
few_named (Some prefix) = few_at (bounds_of prefix) (nat_lt 0 (bounds_of prefix).first)

pub few_cuts : (rules : List Rule) → length (flat_map cuts_of rules) ≤ 4 * length rules
few_cuts [] = omega arith
few_cuts (rule ∷ rules) =
    let one : length (cuts_of rule) ≡ length (cuts_named rule.from) + length (cuts_named rule.to) = length-append _ _ in
    let all : length (cuts_of rule ++ flat_map cuts_of rules) ≡ length (cuts_of rule) + length (flat_map cuts_of rules) = length-append _ _ in
    rw (flat_map-cons cuts_of rule rules) (omega (arith, one, all, few_named rule.from, few_named rule.to, few_cuts rules))

-- ---- each has its cuts

has_at : (bounds : Bounds) (b : Bool) → b ≡ true → Contains (cond b ((bounds.first - 1) ∷ bounds.last ∷ []) (bounds.last ∷ [])) (bounds.first - 1)
has_at bounds true e = (0, omega arith, refl)
has_at bounds false e = absurd (cc)

has_last : (bounds : Bounds) (b : Bool) → Contains (cond b ((bounds.first - 1) ∷ bounds.last ∷ []) (bounds.last ∷ [])) bounds.last
has_last bounds true = (1, omega arith, refl)
has_last bounds false = (0, omega arith, refl)

has_named : (cuts : List ℕ) (named : Option Prefix) → Among (cuts_named named) cuts → IfSome named (HasCuts cuts)
has_named cuts None among = tt
has_named cuts (Some prefix) among = record {
  before = λ positive. among _ (has_at (bounds_of prefix) (nat_lt 0 (bounds_of prefix).first) (lt-ltb 0 (bounds_of prefix).first positive));
  last = among _ (has_last (bounds_of prefix) (nat_lt 0 (bounds_of prefix).first));
}

has_rule : (cuts : List ℕ) (rule : Rule) → Among (cuts_of rule) cuts → HasRuleCuts cuts rule
has_rule cuts rule among = record {
  from = has_named cuts rule.from (λ x there. among x (Contains-append_left (cuts_named rule.from) (cuts_named rule.to) x there));
  to = has_named cuts rule.to (λ x there. among x (Contains-append_right (cuts_named rule.from) (cuts_named rule.to) x there));
}

have_cuts : (cuts : List ℕ) (rules : List Rule) → Among (flat_map cuts_of rules) cuts → HaveCuts cuts rules
have_cuts cuts [] among = tt
have_cuts cuts (rule ∷ rules) among =
    let both : Among (cuts_of rule ++ flat_map cuts_of rules) cuts = subst (λ xs. Among xs cuts) (flat_map-cons cuts_of rule rules) among in (
      has_rule cuts rule (λ x there. both x (Contains-append_left (cuts_of rule) (flat_map cuts_of rules) x there)),
      have_cuts cuts rules (λ x there. both x (Contains-append_right (cuts_of rule) (flat_map cuts_of rules) x there)),
    )

-- ---- also when they are sorted

pub sorted_few : (listed sorted : List ℕ) (rules : List Rule) → listed ≡ flat_map cuts_of rules → IsPermutation listed sorted → length rules ≤ 4096 → length sorted ≤ 16384
sorted_few listed sorted rules same each few =
    let same_length : length listed ≡ length (flat_map cuts_of rules) = ap length same in
    omega (arith, length_permutation listed sorted each, same_length, few_cuts rules, few)

-- and when each is kept once
pub once_have : (listed sorted once : List ℕ) (rules : List Rule) → listed ≡ flat_map cuts_of rules → IsPermutation listed sorted → once ≡ dedup eqb sorted → HaveCuts once rules
once_have listed sorted once rules same each is =
    have_cuts once rules (λ x there.
    subst (λ (xs : List ℕ). Contains xs x) (sym is) (Contains-dedup_nat sorted x (Contains-permutation listed sorted x each (subst (λ xs. Contains xs x) (sym same) there))))

pub increasing_ascends : (cuts : List ℕ) → IsStrictlyIncreasing cuts → IsNonDecreasing cuts
increasing_ascends cuts up i j d le lt = by (cases_lt i j) where
  by : (i < j) ⊎ (j ≤ i) → get_or cuts i d ≤ get_or cuts j d
  by (inl less) = let below : get_or cuts i d < get_or cuts j d = AllPairs-from_increasing cuts up i j d less lt in omega (arith, below)
  by (inr more) = let same : i ≡ j = omega (arith, le, more) in omega (arith, ap (λ k. get_or cuts k d) same)
