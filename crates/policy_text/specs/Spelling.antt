-- Which texts spell which policy, by cases on lines and words. The language is this project's own.
use Rattle.std.specs.Prelude.{◌≡◌, ◌⊎◌, ℕ, ◌<◌, true, false, List, [], ◌∷◌, length, Option, Some, None, codes}
use Rattle.std.specs.Fmt.{decimal}
use Rattle.flow_prefix.specs.declared.prefix.Prefix.{Prefix}
use Rattle.flow_prefix.specs.Text.{IsPrefixText}
use Rattle.policy_text.specs.declared.rule.Rule.{Rule}
use Rattle.policy_text.specs.declared.version.Version.{Version}
use Rattle.policy_text.specs.Words.{Word, words_of, lines_of, is_skipped}
use Rattle.policy_text.specs.Policies.{PolicyMeaning, without_lines, with_rule, with_aggregate, Aggregate as Definition}
use Rattle.policy_text.specs.Classes.{star}
use Rattle.policy_text.specs.Grammar.{IsRule, IsAggregate}
use Rattle.policy_text.specs.Printing.{word_or_star, itself, action_words, aggregate_words, header}

-- a prefix may have several texts; `*` is none
abbrev pub IsPrefixWord : Option Prefix → Word → Type 0
IsPrefixWord None word = word ≡ star
IsPrefixWord (Some p) word = IsPrefixText word p

-- the words of a rule behind `rule`, its prefixes in these words
abbrev pub rule_tail : List Definition → Rule → Word → Word → List Word
rule_tail aggregates r from to =
    codes "for" ∷ word_or_star itself r.who ∷ codes "in" ∷ word_or_star decimal r.domain
    ∷ codes "from" ∷ from ∷ codes "to" ∷ to ∷ action_words aggregates r.element r.action

-- the words spell a rule that may stand after these aggregates, in a text of this version
pub record SpellsRule (version : Version) (aggregates : List Definition) (words : List Word) (r : Rule) : Type 0 where
  pub from : Word
  pub to : Word
  pub sound : IsRule version aggregates r
  pub from_is : IsPrefixWord r.from from
  pub to_is : IsPrefixWord r.to to
  pub words_are : words ≡ rule_tail aggregates r from to

-- a line of a rule: there are at most 4096
pub record AddsRule (old : PolicyMeaning) (words : List Word) (new : PolicyMeaning) : Type 0 where
  pub tail : List Word
  pub rule : Rule
  pub words_are : words ≡ codes "rule" ∷ tail
  pub room : length old.rules < 4096
  pub spelled : SpellsRule old.version old.aggregates tail rule
  pub added : with_rule old rule ≡ new

-- a line of an aggregate: there are at most 256
pub record AddsAggregate (old : PolicyMeaning) (words : List Word) (new : PolicyMeaning) : Type 0 where
  pub aggregate : Definition
  pub words_are : words ≡ aggregate_words aggregate
  pub room : length old.aggregates < 256
  pub sound : IsAggregate old.aggregates aggregate
  pub added : with_aggregate old aggregate ≡ new

-- a line without words and a comment change nothing
abbrev pub AfterLine : PolicyMeaning → List Word → PolicyMeaning → Type 0
AfterLine old words new = ((is_skipped words ≡ true) × (old ≡ new)) ⊎ ((is_skipped words ≡ false) × (AddsRule old words new ⊎ AddsAggregate old words new))

-- the lines lead from one policy to the other
abbrev pub AreLines : PolicyMeaning → List (List ℕ) → PolicyMeaning → Type 0
AreLines old [] new = old ≡ new
AreLines old (line ∷ lines) new = (mid : PolicyMeaning) × AfterLine old (words_of line) mid × AreLines mid lines new

-- the header is the first line that isn't skipped, and names the version
abbrev pub AreAllLines : List (List ℕ) → PolicyMeaning → Type 0
AreAllLines [] new = ⊥
AreAllLines (line ∷ lines) new =
    ((is_skipped (words_of line) ≡ true) × AreAllLines lines new)
    ⊎ ((is_skipped (words_of line) ≡ false) × (version : Version) × (words_of line ≡ header version) × AreLines (without_lines version) lines new)

-- the text spells the policy
abbrev pub Spells : List ℕ → PolicyMeaning → Type 0
Spells text policy = AreAllLines (lines_of text) policy

-- no text spells two policies
abbrev pub OnePolicy : Type 0
OnePolicy = (text : List ℕ) (p q : PolicyMeaning) → Spells text p → Spells text q → p ≡ q
