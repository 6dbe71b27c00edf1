-- Records of the same keys are covered by the same rules.
use Rattle.std.proofs.Common.{◌≡◌, ℕ, suc, ◌≤◌, Bool, true, false, List, [], ◌∷◌, length, map, Option, Some, None, IfSome, refl, ap, sym, ◌∙◌, nat_lt, ◌&&◌, ◌||◌}
use Rattle.std.specs.List.{list_any, list_all}
use Rattle.ipfix_template.specs.DataRecord.{DataRecord}
use Rattle.flow_prefix.specs.declared.prefix.Prefix.{Prefix}
use Rattle.flow_prefix.specs.Prefixes.{IsPrefix, contains}
use Rattle.policy_text.specs.declared.rule.Rule.{Rule}
use Rattle.policy_judge.specs.Occurrences.{sources, destinations}
use Rattle.policy_judge.specs.Match.{is_met, denies, are_inside, covers}
use Rattle.rule_table.specs.Cuts.{HasCuts, HasRuleCuts, most_cuts}
use Rattle.rule_table.specs.Classes.{class_key}
use Rattle.rule_table.specs.Laws.{HaveKeys}
use Rattle.rule_table.proofs.ClassLaws.{same_key}

abbrev itself : Bool → Bool
itself b = b

any_of : (test : List ℕ → Bool) (vs : List (List ℕ)) → list_any test vs ≡ list_any itself (map test vs)
any_of test [] = refl
any_of test (v ∷ vs) = ap (λ b. test v || b) (any_of test vs)

all_of : (test : List ℕ → Bool) (vs : List (List ℕ)) → list_all test vs ≡ list_all itself (map test vs)
all_of test [] = refl
all_of test (v ∷ vs) = ap (λ b. test v && b) (all_of test vs)

as_many : (test : List ℕ → Bool) (vs : List (List ℕ)) → length vs ≡ length (map test vs)
as_many test [] = refl
as_many test (v ∷ vs) = ap suc (as_many test vs)

-- whether some or all values are inside, from the answers for each
pub same_are_inside : (b : Bool) (vs ws : List (List ℕ)) (prefix : Prefix) → map (contains prefix) vs ≡ map (contains prefix) ws → are_inside b vs prefix ≡ are_inside b ws prefix
same_are_inside true vs ws prefix e = any_of (contains prefix) vs ∙ ap (list_any itself) e ∙ sym (any_of (contains prefix) ws)
same_are_inside false vs ws prefix e =
    let many : length vs ≡ length ws = as_many (contains prefix) vs ∙ ap length e ∙ sym (as_many (contains prefix) ws) in
    let all : list_all (contains prefix) vs ≡ list_all (contains prefix) ws = all_of (contains prefix) vs ∙ ap (list_all itself) e ∙ sym (all_of (contains prefix) ws) in
    ap (λ n. nat_lt 0 n && list_all (contains prefix) vs) many ∙ ap (λ b. nat_lt 0 (length ws) && b) all

same_met : (cuts : List ℕ) (b : Bool) (named : Option Prefix) (vs ws : List (List ℕ)) (k : ℕ) → length cuts ≤ most_cuts → IfSome named IsPrefix → IfSome named (HasCuts cuts)
    → class_key cuts vs ≡ Some k → class_key cuts ws ≡ Some k → is_met (are_inside b vs) named ≡ is_met (are_inside b ws) named
same_met cuts b None vs ws k few sound has one other = refl
same_met cuts b (Some prefix) vs ws k few sound has one other = same_are_inside b vs ws prefix (same_key cuts prefix vs ws k few sound has one other)

pub same_covers : (cuts : List ℕ) (rule : Rule) (r s : DataRecord) (from to : ℕ) → length cuts ≤ most_cuts → IfSome rule.from IsPrefix → IfSome rule.to IsPrefix
    → HasRuleCuts cuts rule → HaveKeys cuts r s from to → covers r rule ≡ covers s rule
same_covers cuts rule r s from to few sound_from sound_to has keys =
    let first = same_met cuts (denies rule.action) rule.from (sources r) (sources s) from few sound_from has.from keys.one_from keys.other_from in
    let second = same_met cuts (denies rule.action) rule.to (destinations r) (destinations s) to few sound_to has.to keys.one_to keys.other_to in
    ap (λ b. b && is_met (are_inside (denies rule.action) (destinations r)) rule.to) first
    ∙ ap (λ b. is_met (are_inside (denies rule.action) (sources s)) rule.from && b) second
