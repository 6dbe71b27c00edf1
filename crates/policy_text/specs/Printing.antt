-- The one printed text of a policy.
use Rattle.std.specs.Prelude.{◌≡◌, ℕ, List, [], ◌∷◌, ◌++◌, Option, Some, None, Ok, map, codes}
use Rattle.std.specs.List.{flat_map, join_with_byte}
use Rattle.std.specs.Fmt.{decimal}
use Rattle.ipfix_element.specs.Element.{Element}
use Rattle.ipfix_element.specs.Names.{element_name}
use Rattle.flow_prefix.specs.Printing.{prefix_text}
use Rattle.policy_text.specs.declared.rule.Rule.{Rule}
use Rattle.policy_text.specs.declared.rule.Action.{Action}
use Rattle.policy_text.specs.declared.rule.Action.TheVariants.{Pass, Withhold, Aggregate, Keep, Remove, Truncate, Degrade}
use Rattle.policy_text.specs.declared.version.Version.{Version}
use Rattle.policy_text.specs.declared.version.Version.TheVariants.{One, Two}
use Rattle.policy_text.specs.Words.{Word}
use Rattle.policy_text.specs.Policies.{PolicyMeaning, Aggregate as Definition}
use Rattle.policy_text.specs.Classes.{star}
use Rattle.policy_text.specs.Grammar.{name_at, IsPolicy}
use Rattle.policy_text.specs.Parsing.{policy_of}

-- a value's word, or `*` for none
abbrev pub word_or_star : {A : Type 0} → (A → Word) → Option A → Word
word_or_star word None = star
word_or_star word (Some a) = word a

abbrev pub itself : Word → Word
itself word = word

-- the words of what a rule does
abbrev pub action_words : List Definition → Option Element → Action → List Word
action_words aggregates element Pass = codes "pass" ∷ []
action_words aggregates element Withhold = codes "withhold" ∷ []
action_words aggregates element (Aggregate place) = codes "aggregate" ∷ name_at aggregates place ∷ []
action_words aggregates element Keep = codes "element" ∷ word_or_star element_name element ∷ codes "keep" ∷ []
action_words aggregates element Remove = codes "element" ∷ word_or_star element_name element ∷ codes "remove" ∷ []
action_words aggregates element (Truncate bits) = codes "element" ∷ word_or_star element_name element ∷ codes "truncate" ∷ decimal bits ∷ []
action_words aggregates element (Degrade seconds) = codes "element" ∷ word_or_star element_name element ∷ codes "degrade" ∷ decimal seconds ∷ []

abbrev pub rule_words : List Definition → Rule → List Word
rule_words aggregates r =
    codes "rule" ∷ codes "for" ∷ word_or_star itself r.who ∷ codes "in" ∷ word_or_star decimal r.domain
    ∷ codes "from" ∷ word_or_star prefix_text r.from ∷ codes "to" ∷ word_or_star prefix_text r.to
    ∷ action_words aggregates r.element r.action

-- element names with commas between
abbrev pub key_text : List Element → Word
key_text key = join_with_byte 44 (map element_name key)

abbrev pub aggregate_words : Definition → List Word
aggregate_words a =
    codes "aggregate" ∷ a.name ∷ codes "key" ∷ key_text a.key ∷ codes "interval" ∷ decimal a.interval ∷ codes "grace" ∷ decimal a.grace ∷ []

abbrev pub version_word : Version → Word
version_word One = codes "1"
version_word Two = codes "2"

abbrev pub header : Version → List Word
header version = codes "policy" ∷ version_word version ∷ []

-- one space between words, and a line feed
abbrev pub line_text : List Word → List ℕ
line_text words = join_with_byte 32 words ++ 10 ∷ []

-- the header, the aggregates and the rules
abbrev pub policy_lines : PolicyMeaning → List (List Word)
policy_lines policy = header policy.version ∷ (map aggregate_words policy.aggregates ++ map (rule_words policy.aggregates) policy.rules)

unfoldable pub policy_text : PolicyMeaning → List ℕ
policy_text policy = flat_map line_text (policy_lines policy)

-- what is printed is read back
abbrev pub PoliciesReadBack : Type 0
PoliciesReadBack = (policy : PolicyMeaning) → IsPolicy policy → policy_of (policy_text policy) ≡ Ok policy
