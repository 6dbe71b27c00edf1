-- Lines as they are printed, piece by piece.
use Rattle.std.proofs.Common.{◌≡◌, ℕ, zero, suc, ◌+◌, ◌<◌, cond, List, [], ◌∷◌, ◌++◌, length, get_or, take, map, Option, Result, Ok, Err, is_ok, OnOk, refl, sym, ap, ◌∙◌, arith, append_assoc, append-nil, codes}
use Rattle.std.specs.List.{join_with_byte, flat_map}
use Rattle.std.proofs.lemmas.List.{take_more, map_push}
use Rattle.std.proofs.lemmas.List.Concat.{flat_map-append}
use Rattle.ipfix_element.specs.Element.{Element}
use Rattle.policy_text.specs.declared.rule.Action.{Action}
use Rattle.policy_text.specs.declared.rule.Action.TheVariants.{Pass, Withhold, Aggregate, Keep, Remove, Truncate, Degrade}
use Rattle.policy_text.specs.Words.{Word}
use Rattle.policy_text.specs.Policies.{PolicyMeaning, Aggregate as Definition}
use Rattle.policy_text.specs.Grammar.{name_at}
use Rattle.policy_text.specs.Printing.{action_words, header, policy_text, aggregate_words, line_text, rule_words, word_or_star, itself}
use Rattle.flow_prefix.specs.Printing.{prefix_text}
use Rattle.std.specs.Fmt.{decimal}
use Rattle.policy_text.specs.declared.rule.Rule.{Rule}

-- an action has words
pub action_join : (aggregates : List Definition) (element : Option Element) (action : Action) (word : Word) → join_with_byte 32 (word ∷ action_words aggregates element action) ≡ word ++ 32 ∷ join_with_byte 32 (action_words aggregates element action)
action_join aggregates element Pass word = refl
action_join aggregates element Withhold word = refl
action_join aggregates element (Aggregate place) word = refl
action_join aggregates element Keep word = refl
action_join aggregates element Remove word = refl
action_join aggregates element (Truncate bits) word = refl
action_join aggregates element (Degrade seconds) word = refl

pub name_at_read : (aggregates : List Definition) (place : ℕ) (a : Definition) → place < length aggregates → a ≡ get_or aggregates place a → name_at aggregates place ≡ a.name
name_at_read [] place a low e = absurd (omega arith)
name_at_read (b ∷ rest) zero a low e = ap (λ (d : Definition). d.name) (sym e)
name_at_read (b ∷ rest) (suc place) a low e = name_at_read rest place a (omega arith) e

pub name_at_past : (aggregates : List Definition) (place : ℕ) → length aggregates < place + 1 → name_at aggregates place ≡ []
name_at_past [] place past = refl
name_at_past (b ∷ rest) zero past = absurd (omega arith)
name_at_past (b ∷ rest) (suc place) past = name_at_past rest place (omega arith)

-- a turn of a loop over lines
pub lines_turn : {A : Type 0} (f : A → List Word) (xs : List A) (i : ℕ) (x : A) → i < length xs → x ≡ get_or xs i x → flat_map line_text (map f (take (i + 1) xs)) ≡ flat_map line_text (map f (take i xs)) ++ line_text (f x)
lines_turn {A} f xs i x low is =
    ap (λ ys. flat_map line_text (map f ys)) (take_more xs i x low ∙ ap (λ (y : A). take i xs ++ y ∷ []) (sym is))
    ∙ ap (flat_map line_text) (map_push f (take i xs) x)
    ∙ flat_map-append line_text (map f (take i xs)) (f x ∷ [])
    ∙ ap (λ t. flat_map line_text (map f (take i xs)) ++ t) (append-nil (line_text (f x)))

-- a last piece, whose result is returned as it is
pub last_push : {E : Type 0} (r : Result (Unit {0}) E) (new old piece want : List ℕ) → new ≡ cond (is_ok r) (old ++ piece) old → old ++ piece ≡ want → OnOk r (new ≡ want)
last_push (Ok u) new old piece want e same = e ∙ same
last_push (Err x) new old piece want e same = tt

abbrev in_row : List Definition → Rule → List ℕ → List ℕ
in_row aggregates r old =
    old ++ codes "rule for " ++ word_or_star itself r.who ++ codes " in " ++ word_or_star decimal r.domain ++ codes " from " ++ word_or_star prefix_text r.from ++ codes " to " ++ word_or_star prefix_text r.to ++ codes " " ++ join_with_byte 32 (action_words aggregates r.element r.action) ++ 10 ∷ []

row_is : (old who domain from to rest whole : List ℕ) → whole ≡ to ++ 32 ∷ rest → old ++ codes "rule for " ++ who ++ codes " in " ++ domain ++ codes " from " ++ from ++ codes " to " ++ to ++ codes " " ++ rest ++ 10 ∷ []
    ≡ old ++ (codes "rule for " ++ (who ++ (codes " in " ++ (domain ++ (codes " from " ++ (from ++ (codes " to " ++ whole))))))) ++ 10 ∷ []
row_is old who domain from to rest whole e = rw e (simp append_assoc)

-- the pieces of a rule's line
pub rule_row : (aggregates : List Definition) (r : Rule) (old : List ℕ) → in_row aggregates r old ≡ old ++ line_text (rule_words aggregates r)
rule_row aggregates r old =
    row_is old (word_or_star itself r.who) (word_or_star decimal r.domain) (word_or_star prefix_text r.from) (word_or_star prefix_text r.to) (join_with_byte 32 (action_words aggregates r.element r.action)) (join_with_byte 32 (word_or_star prefix_text r.to ∷ action_words aggregates r.element r.action)) (action_join aggregates r.element r.action (word_or_star prefix_text r.to))
    ∙ append_assoc old (codes "rule for " ++ (word_or_star itself r.who ++ (codes " in " ++ (word_or_star decimal r.domain ++ (codes " from " ++ (word_or_star prefix_text r.from ++ (codes " to " ++ join_with_byte 32 (word_or_star prefix_text r.to ∷ action_words aggregates r.element r.action)))))))) (10 ∷ [])

-- the lines of a policy
pub policy_rows : (policy : PolicyMeaning) →
    (line_text (header policy.version) ++ flat_map line_text (map aggregate_words policy.aggregates)) ++ flat_map line_text (map (rule_words policy.aggregates) policy.rules)
    ≡ policy_text policy
unfolding policy_text
policy_rows policy =
    let first = line_text (header policy.version) in
    let aggregates = map aggregate_words policy.aggregates in
    let rules = map (rule_words policy.aggregates) policy.rules in
    append_assoc first (flat_map line_text aggregates) (flat_map line_text rules)
    ∙ ap (λ t. first ++ t) (sym (flat_map-append line_text aggregates rules))
