-- A rule or an aggregate more keeps a policy one that a text may spell.
use Rattle.std.proofs.Common.{◌≡◌, ℕ, zero, suc, ◌<◌, Bool, List, [], ◌∷◌, ◌++◌, length, Option, Some, refl, sym, ap, ◌∙◌, subst, arith, append_assoc, append-nil, length-append}
use Rattle.std.specs.List.{position_or_len}
use Rattle.std.specs.Str.{bytes_eq}
use Rattle.std.proofs.lemmas.List.Folds.{position_or_len_push}
use Rattle.std.proofs.lemmas.Bool.{lt-ltb, ne_eqb}
use Rattle.ipfix_element.specs.Element.{Element}
use Rattle.policy_text.specs.declared.rule.Rule.{Rule}
use Rattle.policy_text.specs.declared.rule.Action.{Action}
use Rattle.policy_text.specs.declared.rule.Action.TheVariants.{Pass, Withhold, Aggregate, Keep, Remove, Truncate, Degrade}
use Rattle.policy_text.specs.declared.version.Version.{Version}
use Rattle.policy_text.specs.declared.version.Version.TheVariants.{One}
use Rattle.policy_text.specs.Words.{Word}
use Rattle.policy_text.specs.Policies.{PolicyMeaning, without_lines, nothing, with_rule, with_aggregate, Aggregate as Definition}
use Rattle.policy_text.specs.Classes.{place_of}
use Rattle.policy_text.specs.Grammar.{name_at, IsAction, IsRule, IsAggregate, AreAggregates, AreRules, IsPolicy}
use Rattle.policy_text.proofs.WordLaws.{position-place}

pub IsPolicy-without_lines : (version : Version) → IsPolicy (without_lines version)
IsPolicy-without_lines version = record { aggregates = tt; rules = tt; few_aggregates = omega arith; few_rules = omega arith }

pub IsPolicy-nothing : IsPolicy nothing
IsPolicy-nothing = IsPolicy-without_lines One

rules_push : (version : Version) (aggregates : List Definition) (rules : List Rule) (r : Rule) → AreRules version aggregates rules → IsRule version aggregates r → AreRules version aggregates (rules ++ r ∷ [])
rules_push version aggregates [] r h k = (k, tt)
rules_push version aggregates (x ∷ rules) r h k = (h.0, rules_push version aggregates rules r h.1 k)

pub with_rule-kept : (p : PolicyMeaning) (r : Rule) → IsPolicy p → IsRule p.version p.aggregates r → length p.rules < 4096 → IsPolicy (with_rule p r)
with_rule-kept p r h k room = record {
  aggregates = h.aggregates;
  rules = rules_push p.version p.aggregates p.rules r h.rules k;
  few_aggregates = h.few_aggregates;
  few_rules = omega (arith, length-append p.rules (r ∷ []));
}

aggregates_push : (before xs : List Definition) (a : Definition) → AreAggregates before xs → IsAggregate (before ++ xs) a → AreAggregates before (xs ++ a ∷ [])
aggregates_push before [] a h k = let P : List Definition → Type 0 = λ list. IsAggregate list a in (subst P (append-nil before) k, tt)
aggregates_push before (x ∷ xs) a h k =
    let P : List Definition → Type 0 = λ list. IsAggregate list a in
    (h.0, aggregates_push (before ++ x ∷ []) xs a h.1 (subst P (sym (append_assoc before (x ∷ []) xs)) k))

name_at-front : (xs : List Definition) (a : Definition) (place : ℕ) → place < length xs → name_at (xs ++ a ∷ []) place ≡ name_at xs place
name_at-front [] a place low = absurd (omega arith)
name_at-front (x ∷ xs) a zero low = refl
name_at-front (x ∷ xs) a (suc place) low = name_at-front xs a place (omega arith)

place_of-front : (xs : List Definition) (a : Definition) (w : Word) (place : ℕ) → place_of xs w ≡ Some place → place_of (xs ++ a ∷ []) w ≡ Some place
place_of-front xs a w place e =
    let p : Definition → Bool = λ d. bytes_eq d.name w in
    let found = position-place p xs place e in
    let inside : position_or_len p xs < length xs = omega (arith, found.0, found.1) in
    let test = ne_eqb (position_or_len p xs) (length xs) (λ same. omega (arith, same, inside)) in
    let pushed : position_or_len p (xs ++ a ∷ []) ≡ position_or_len p xs = position_or_len_push p xs a ∙ rw test refl in
    let longer = lt-ltb (position_or_len p xs) (length (xs ++ a ∷ [])) (omega (arith, inside, length-append xs (a ∷ []))) in
    rw (pushed, longer) (ap (λ (i : ℕ). Some i) found.0)

action_kept : (version : Version) (xs : List Definition) (a : Definition) (e : Option Element) (action : Action) → IsAction version xs e action → IsAction version (xs ++ a ∷ []) e action
action_kept version xs a e Pass h = h
action_kept version xs a e Withhold h = h
action_kept version xs a e (Aggregate place) h =
    let found = position-place (λ (d : Definition). bytes_eq d.name (name_at xs place)) xs place h.2 in
    let same = name_at-front xs a place found.1 in
    rw same (h.0, h.1, place_of-front xs a (name_at xs place) place h.2)
action_kept version xs a e Keep h = tt
action_kept version xs a e Remove h = tt
action_kept version xs a e (Truncate bits) h = h
action_kept version xs a e (Degrade seconds) h = h

rules_kept : (version : Version) (xs : List Definition) (a : Definition) (rules : List Rule) → AreRules version xs rules → AreRules version (xs ++ a ∷ []) rules
rules_kept version xs a [] h = tt
rules_kept version xs a (r ∷ rules) h =
    (record { who = h.0.who; domain = h.0.domain; from = h.0.from; to = h.0.to; element = h.0.element; action = action_kept version xs a r.element r.action h.0.action }, rules_kept version xs a rules h.1)

pub with_aggregate-kept : (p : PolicyMeaning) (a : Definition) → IsPolicy p → IsAggregate p.aggregates a → length p.aggregates < 256 → IsPolicy (with_aggregate p a)
with_aggregate-kept p a h k room = record {
  aggregates = aggregates_push [] p.aggregates a h.aggregates k;
  rules = rules_kept p.version p.aggregates a p.rules h.rules;
  few_aggregates = omega (arith, length-append p.aggregates (a ∷ []));
  few_rules = h.few_rules;
}
