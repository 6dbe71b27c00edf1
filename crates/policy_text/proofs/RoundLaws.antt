-- What is printed of a policy is read as that policy.
use Rattle.std.proofs.Common.{◌≡◌, ℕ, ◌+◌, ◌^◌, ◌<◌, ◌≤◌, Bool, true, false, List, [], ◌∷◌, ◌++◌, length, map, Option, Some, None, Result, Ok, refl, sym, ap, ◌∙◌, subst, arith, append_assoc, append-nil, length-append, codes, IfSome}
use Rattle.std.specs.List.{AllByRecursion, join_with_byte}
use Rattle.std.specs.Fmt.{decimal}
use Rattle.std.proofs.lemmas.Bool.{lt-leb}
use Rattle.ipfix_element.specs.Element.{Element, IsElement}
use Rattle.ipfix_element.specs.Names.{element_name}
use Rattle.flow_prefix.specs.Prefixes.{IsPrefix}
use Rattle.flow_prefix.specs.Printing.{prefix_text}
use Rattle.sequences.proofs.ListLaws.{AllByRecursion-append}
use Rattle.policy_text.specs.declared.fault.FaultKind.{FaultKind}
use Rattle.policy_text.specs.declared.fault.FaultKind.TheVariants.{BadName, BadNumber, BadPrefix}
use Rattle.policy_text.specs.declared.rule.Rule.{Rule}
use Rattle.policy_text.specs.declared.rule.Action.{Action}
use Rattle.policy_text.specs.declared.rule.Action.TheVariants.{Pass, Withhold, Aggregate, Keep, Remove, Truncate, Degrade}
use Rattle.policy_text.specs.declared.version.Version.{Version}
use Rattle.policy_text.specs.declared.version.Version.TheVariants.{One, Two}
use Rattle.policy_text.specs.Words.{Word, words_of, is_skipped}
use Rattle.policy_text.specs.Naming.{is_name}
use Rattle.policy_text.specs.Policies.{PolicyMeaning, without_lines, Aggregate as Definition}
use Rattle.policy_text.specs.Classes.{name, number, element, prefix, or_star, width_at, is_time_at}
use Rattle.policy_text.specs.Lines.{next_of, next, behind_word, end_of_words, truncate_of, degrade_of, read_element_action, aggregate_action, on_element, action_of, rule_of, aggregate_of, rule_line, aggregate_line, policy_after_line}
use Rattle.policy_text.specs.Parsing.{version_of, step, line_step, read_lines, policy_of}
use Rattle.policy_text.specs.Grammar.{name_at, IsAction, IsRule, IsAggregate, AreAggregates, AreRules}
use Rattle.policy_text.specs.Printing.{word_or_star, itself, version_word, action_words, rule_words, key_text, aggregate_words, header, policy_text, PoliciesReadBack}
use Rattle.policy_text.proofs.WordLaws.{words_of-nil}
use Rattle.policy_text.proofs.ParsingLaws.{read_lines-cons, read_lines-done}
use Rattle.policy_text.proofs.PlainLaws.{IsPlain, ArePlain, decimal_plain, words_of-joined, lines_of-printed}
use Rattle.policy_text.proofs.PrintedClassLaws.{name_plain, element_plain, prefix_plain, key_plain, name-printed, new_name-printed, aggregate_place-printed, number-printed, interval-printed, bits-printed, element-printed, prefix-printed, or_star-printed, name-star, number-star, prefix-star, element-star, key-printed}

-- printed lines are plain
given_plain : {A : Type 0} (word : A → Word) (P : A → Type 0) → ((a : A) → P a → IsPlain (word a)) → (o : Option A) → IfSome o P → IsPlain (word_or_star word o)
given_plain word P plain_of None h = record { some = omega arith; each = refl }
given_plain word P plain_of (Some a) h = plain_of a h

action_plain : (version : Version) (aggregates : List Definition) (e : Option Element) (action : Action) → IfSome e IsElement → IsAction version aggregates e action → ArePlain (action_words aggregates e action)
action_plain version aggregates e Pass ok h = (record { some = omega arith; each = refl }, tt)
action_plain version aggregates e Withhold ok h = (record { some = omega arith; each = refl }, tt)
action_plain version aggregates e (Aggregate place) ok h = (record { some = omega arith; each = refl }, (name_plain (name_at aggregates place) h.1, tt))
action_plain version aggregates e Keep ok h = (record { some = omega arith; each = refl }, (given_plain element_name IsElement element_plain e ok, (record { some = omega arith; each = refl }, tt)))
action_plain version aggregates e Remove ok h = (record { some = omega arith; each = refl }, (given_plain element_name IsElement element_plain e ok, (record { some = omega arith; each = refl }, tt)))
action_plain version aggregates e (Truncate bits) ok h = let short = h.3 in (record { some = omega arith; each = refl }, (given_plain element_name IsElement element_plain e ok, (record { some = omega arith; each = refl }, (decimal_plain bits (omega arith), tt))))
action_plain version aggregates e (Degrade seconds) ok h = let high = h.3 in (record { some = omega arith; each = refl }, (given_plain element_name IsElement element_plain e ok, (record { some = omega arith; each = refl }, (decimal_plain seconds (omega arith), tt))))

domain_plain : (d : ℕ) → d < 2 ^ 32 → IsPlain (decimal d)
domain_plain d small = decimal_plain d (omega arith)

rule_plain : (version : Version) (aggregates : List Definition) (r : Rule) → IsRule version aggregates r → ArePlain (rule_words aggregates r)
rule_plain version aggregates r h = (
  record { some = omega arith; each = refl },
  (
    record { some = omega arith; each = refl },
    (
      given_plain itself (λ w. is_name w ≡ true) name_plain r.who h.who,
      (
        record { some = omega arith; each = refl },
        (
          given_plain decimal (λ d. d < 2 ^ 32) domain_plain r.domain h.domain,
          (
            record { some = omega arith; each = refl },
            (
              given_plain prefix_text IsPrefix prefix_plain r.from h.from,
              (
                record { some = omega arith; each = refl },
                (given_plain prefix_text IsPrefix prefix_plain r.to h.to, action_plain version aggregates r.element r.action h.element h.action),
              ),
            ),
          ),
        ),
      ),
    ),
  ),
)

aggregate_plain : (before : List Definition) (a : Definition) → IsAggregate before a → ArePlain (aggregate_words a)
aggregate_plain before a h =
    let high = h.ranged.interval_high in
    let grace = h.ranged.grace_high in (
      record { some = omega arith; each = refl },
      (
        name_plain a.name h.name,
        (
          record { some = omega arith; each = refl },
          (
            key_plain a.key h.key h.ranged.elements.0,
            (
              record { some = omega arith; each = refl },
              (
                decimal_plain a.interval (omega arith),
                (record { some = omega arith; each = refl }, (decimal_plain a.grace (omega arith), tt)),
              ),
            ),
          ),
        ),
      ),
    )

-- and read
truncated_back : (width : Option ℕ) (w bits : ℕ) → width ≡ Some w → bits ≤ w → bits < 1000 → truncate_of width (decimal bits ∷ []) ≡ Ok (Truncate bits, [])
unfolding truncate_of next next_of
truncated_back width w bits e within short = rw (e, bits-printed w bits within short) refl

degraded_back : (is_time : Bool) (seconds : ℕ) → is_time ≡ true → 1 ≤ seconds → seconds ≤ 86400 → degrade_of is_time (decimal seconds ∷ []) ≡ Ok (Degrade seconds, [])
unfolding degrade_of next next_of
degraded_back is_time seconds e low high = rw (e, interval-printed seconds low high) refl

element_back : (e : Option Element) → IfSome e IsElement → or_star element (word_or_star element_name e) ≡ Ok e
element_back e h = or_star-printed element BadName element_name IsElement element-printed element-star e h

no_element : {A : Type 0} (e : Option Element) (action : Action) (rest : A) → e ≡ None → ◌≡◌ {A = Result ((Option Element × Action) × A) FaultKind} (Ok ((None, action), rest)) (Ok ((e, action), rest))
no_element e action rest none = ap (λ (x : Option Element). Ok ((x, action), rest)) (sym none)

pub action_back : (version : Version) (aggregates : List Definition) (e : Option Element) (action : Action) → IfSome e IsElement → IsAction version aggregates e action → action_of version aggregates (action_words aggregates e action) ≡ Ok ((e, action), [])
unfolding action_of aggregate_action on_element read_element_action next next_of
action_back version aggregates e Pass ok h = no_element e Pass [] h
action_back version aggregates e Withhold ok h = no_element e Withhold [] h
action_back version aggregates e (Aggregate place) ok h =
    rw (aggregate_place-printed aggregates (name_at aggregates place) place h.1 h.2) (no_element e (Aggregate place) [] h.0)
action_back version aggregates e Keep ok h = rw (element_back e ok) refl
action_back version aggregates e Remove ok h = rw (element_back e ok) refl
action_back version aggregates e (Truncate bits) ok h = rw (element_back e ok, truncated_back (width_at e) h.0 bits h.1 h.2 h.3) refl
action_back version aggregates e (Degrade seconds) ok h = rw (element_back e ok, h.0, degraded_back (is_time_at e) seconds h.1 h.2 h.3) refl

pub domain_back : (d : ℕ) → d < 2 ^ 32 → number 4294967295 (decimal d) ≡ Ok d
domain_back d small = number-printed 4294967295 d (omega arith) (omega arith)

-- behind `rule`
abbrev rule_tail : List Definition → Rule → List Word
rule_tail aggregates r =
    codes "for" ∷ word_or_star itself r.who ∷ codes "in" ∷ word_or_star decimal r.domain
    ∷ codes "from" ∷ word_or_star prefix_text r.from ∷ codes "to" ∷ word_or_star prefix_text r.to
    ∷ action_words aggregates r.element r.action

rule_back : (version : Version) (aggregates : List Definition) (r : Rule) → IsRule version aggregates r → rule_of version aggregates (rule_tail aggregates r) ≡ Ok r
unfolding rule_of next next_of behind_word end_of_words
rule_back version aggregates r h =
    rw (
      or_star-printed name BadName itself (λ w. is_name w ≡ true) name-printed name-star r.who h.who,
      or_star-printed (number 4294967295) BadNumber decimal (λ d. d < 2 ^ 32) domain_back (number-star 4294967295) r.domain h.domain,
      or_star-printed prefix BadPrefix prefix_text IsPrefix prefix-printed prefix-star r.from h.from,
      or_star-printed prefix BadPrefix prefix_text IsPrefix prefix-printed prefix-star r.to h.to,
      action_back version aggregates r.element r.action h.element h.action,
    ) refl

pub aggregate_back : (before : List Definition) (a : Definition) → IsAggregate before a → aggregate_of before (a.name ∷ codes "key" ∷ key_text a.key ∷ codes "interval" ∷ decimal a.interval ∷ codes "grace" ∷ decimal a.grace ∷ []) ≡ Ok a
unfolding aggregate_of next next_of behind_word end_of_words
aggregate_back before a h =
    rw (new_name-printed before a.name h.name h.other, key-printed a.key h.key h.ranged.elements.0, interval-printed a.interval h.ranged.interval_low h.ranged.interval_high, number-printed 86400 a.grace (omega arith) h.ranged.grace_high) refl

-- lines that lead from one policy to another
abbrev Adds : PolicyMeaning → List (List Word) → PolicyMeaning → Type 0
Adds p [] q = p ≡ q
Adds p (words ∷ lines) q = (m : PolicyMeaning) × (is_skipped words ≡ false) × (policy_after_line p words ≡ Ok m) × Adds m lines q

adds_append : (p m q : PolicyMeaning) (xs ys : List (List Word)) → Adds p xs m → Adds m ys q → Adds p (xs ++ ys) q
adds_append p m q [] ys h k = let P : PolicyMeaning → Type 0 = λ x. Adds x ys q in subst P (sym h) k
adds_append p m q (words ∷ xs) ys h k = (h.0, h.1, h.2, adds_append h.0 m q xs ys h.3 k)

step_printed : (p m : PolicyMeaning) (words : List Word) (line : Word) → words_of line ≡ words → is_skipped words ≡ false → policy_after_line p words ≡ Ok m → line_step (Some p) line ≡ Ok (Some m)
unfolding line_step step
step_printed p m words line e kept read = rw (e, kept, read) refl

last_empty : (p : PolicyMeaning) (n : ℕ) → read_lines (Some p) n ([] ∷ []) ≡ Ok p
unfolding line_step
last_empty p n = read_lines-cons (Some p) n [] [] ∙ rw words_of-nil (read_lines-done p (n + 1))

read_printed : (p q : PolicyMeaning) (n : ℕ) (lines : List (List Word)) → AllByRecursion ArePlain lines → Adds p lines q → read_lines (Some p) n (map (join_with_byte 32) lines ++ [] ∷ []) ≡ Ok q
read_printed p q n [] plain h = last_empty p n ∙ ap (λ (x : PolicyMeaning). Ok x) h
read_printed p q n (words ∷ lines) plain h =
    read_lines-cons (Some p) n (join_with_byte 32 words) (map (join_with_byte 32) lines ++ [] ∷ [])
    ∙ rw (step_printed p h.0 words (join_with_byte 32 words) (words_of-joined words plain.0) h.1 h.2) (read_printed h.0 q (n + 1) lines plain.1 h.3)

aggregate_added : (version : Version) (before : List Definition) (a : Definition) → IsAggregate before a → length before < 256 → policy_after_line (record { version = version; aggregates = before; rules = [] }) (aggregate_words a) ≡ Ok (record { version = version; aggregates = before ++ a ∷ []; rules = [] })
unfolding policy_after_line aggregate_line next_of
aggregate_added version before a h room = rw (lt-leb 256 (length before) room, aggregate_back before a h) refl

aggregates_added : (version : Version) (before rest : List Definition) → AreAggregates before rest → length before + length rest ≤ 256 → Adds (record { version = version; aggregates = before; rules = [] }) (map aggregate_words rest) (record { version = version; aggregates = before ++ rest; rules = [] })
aggregates_added version before [] h room = ap (λ (list : List Definition). record { version = version; aggregates = list; rules = [] }) (sym (append-nil before))
aggregates_added version before (a ∷ rest) h room =
    let P : List Definition → Type 0 = λ list. Adds (record { version = version; aggregates = before ++ a ∷ []; rules = [] }) (map aggregate_words rest) (record { version = version; aggregates = list; rules = [] }) in (
      record { version = version; aggregates = before ++ a ∷ []; rules = [] },
      refl,
      aggregate_added version before a h.0 (omega arith),
      subst P (append_assoc before (a ∷ []) rest) (aggregates_added version (before ++ a ∷ []) rest h.1 (omega (arith, length-append before (a ∷ [])))),
    )

rule_added : (version : Version) (aggregates : List Definition) (before : List Rule) (r : Rule) → IsRule version aggregates r → length before < 4096 → policy_after_line (record { version = version; aggregates = aggregates; rules = before }) (rule_words aggregates r) ≡ Ok (record { version = version; aggregates = aggregates; rules = before ++ r ∷ [] })
unfolding policy_after_line rule_line next_of
rule_added version aggregates before r h room = rw (lt-leb 4096 (length before) room, rule_back version aggregates r h) refl

rules_added : (version : Version) (aggregates : List Definition) (before rest : List Rule) → AreRules version aggregates rest → length before + length rest ≤ 4096 → Adds (record { version = version; aggregates = aggregates; rules = before }) (map (rule_words aggregates) rest) (record { version = version; aggregates = aggregates; rules = before ++ rest })
rules_added version aggregates before [] h room = ap (λ (list : List Rule). record { version = version; aggregates = aggregates; rules = list }) (sym (append-nil before))
rules_added version aggregates before (r ∷ rest) h room =
    let P : List Rule → Type 0 = λ rs. Adds (record { version = version; aggregates = aggregates; rules = before ++ r ∷ [] }) (map (rule_words aggregates) rest) (record { version = version; aggregates = aggregates; rules = rs }) in (
      record { version = version; aggregates = aggregates; rules = before ++ r ∷ [] },
      refl,
      rule_added version aggregates before r h.0 (omega arith),
      subst P (append_assoc before (r ∷ []) rest) (rules_added version aggregates (before ++ r ∷ []) rest h.1 (omega (arith, length-append before (r ∷ [])))),
    )

aggregates_plain : (before rest : List Definition) → AreAggregates before rest → AllByRecursion ArePlain (map aggregate_words rest)
aggregates_plain before [] h = tt
aggregates_plain before (a ∷ rest) h = (aggregate_plain before a h.0, aggregates_plain (before ++ a ∷ []) rest h.1)

rules_plain : (version : Version) (aggregates : List Definition) (rest : List Rule) → AreRules version aggregates rest → AllByRecursion ArePlain (map (rule_words aggregates) rest)
rules_plain version aggregates [] h = tt
rules_plain version aggregates (r ∷ rest) h = (rule_plain version aggregates r h.0, rules_plain version aggregates rest h.1)

version_plain : (version : Version) → IsPlain (version_word version)
version_plain One = record { some = omega arith; each = refl }
version_plain Two = record { some = omega arith; each = refl }

header_plain : (version : Version) → ArePlain (header version)
header_plain version = (record { some = omega arith; each = refl }, (version_plain version, tt))

pub header_step : (version : Version) (line : Word) → words_of line ≡ header version → line_step None line ≡ Ok (Some (without_lines version))
unfolding line_step step version_of
header_step One line e = rw e refl
header_step Two line e = rw e refl

-- what is printed is read back
pub reads_back : PoliciesReadBack
unfolding policy_text policy_of
reads_back policy h =
    let version = policy.version in
    let first = header version in
    let lines = map aggregate_words policy.aggregates ++ map (rule_words policy.aggregates) policy.rules in
    let plain = AllByRecursion-append ArePlain (map aggregate_words policy.aggregates) (map (rule_words policy.aggregates) policy.rules) (aggregates_plain [] policy.aggregates h.aggregates) (rules_plain version policy.aggregates policy.rules h.rules) in
    let few_aggregates = h.few_aggregates in
    let few_rules = h.few_rules in
    let added = adds_append (without_lines version) (record { version = version; aggregates = policy.aggregates; rules = [] }) policy (map aggregate_words policy.aggregates) (map (rule_words policy.aggregates) policy.rules) (aggregates_added version [] policy.aggregates h.aggregates (omega arith)) (rules_added version policy.aggregates [] policy.rules h.rules (omega arith)) in
    ap (read_lines None 1) (lines_of-printed (first ∷ lines) (header_plain version, plain))
    ∙ read_lines-cons None 1 (join_with_byte 32 first) (map (join_with_byte 32) lines ++ [] ∷ [])
    ∙ rw (header_step version (join_with_byte 32 first) (words_of-joined first (header_plain version))) (read_printed (without_lines version) policy 2 lines plain added)
