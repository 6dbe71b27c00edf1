-- The first fault of a text, in the terms of what is spelled: in the first faulty line the first word, from the left, that no continuation mends.
use Rattle.std.specs.Prelude.{◌≡◌, ◌⊎◌, ℕ, ◌+◌, true, false, List, [], ◌∷◌, ◌++◌, length, Option, Some, None, Err}
use Rattle.std.specs.List.{AllByRecursion}
use Rattle.policy_text.specs.declared.fault.FaultKind.{FaultKind}
use Rattle.policy_text.specs.declared.fault.FaultKind.TheVariants.{NoHeader}
use Rattle.policy_text.specs.declared.fault.Fault.{Fault}
use Rattle.policy_text.specs.declared.version.Version.{Version}
use Rattle.policy_text.specs.Words.{Word, words_of, lines_of, is_skipped}
use Rattle.policy_text.specs.Policies.{PolicyMeaning, with_aggregate, Aggregate as Definition}
use Rattle.policy_text.specs.Grammar.{IsAggregate}
use Rattle.policy_text.specs.Printing.{header}
use Rattle.policy_text.specs.Spelling.{AddsRule, AddsAggregate, AreAllLines, Spells}
use Rattle.policy_text.specs.Parsing.{policy_of}
use Rattle.policy_text.specs.LineParts.{IsKindBehind}
use Rattle.policy_text.specs.LineParts.LinePart.{first_word}

-- a line that may stand after the policy so far; before the header it is the header
abbrev pub MayStand : Option PolicyMeaning → List Word → Type 0
MayStand None words = (version : Version) × (words ≡ header version)
MayStand (Some policy) words = (new : PolicyMeaning) × (AddsRule policy words new ⊎ AddsAggregate policy words new)

-- Where no aggregate is defined, a rule as far as its `aggregate`: with a name it may stand after the line of an aggregate.
abbrev pub AwaitsAggregate : Option PolicyMeaning → List Word → Type 0
AwaitsAggregate None words = ⊥
AwaitsAggregate (Some policy) words =
    (policy.aggregates ≡ []) × (a : Definition) × IsAggregate [] a × (new : PolicyMeaning) × AddsRule (with_aggregate policy a) (words ++ a.name ∷ []) new

-- the words go on to a line that may stand here, or to such a rule
abbrev pub Begins : Option PolicyMeaning → List Word → Type 0
Begins so_far words = (more : List Word) × (MayStand so_far (words ++ more) ⊎ AwaitsAggregate so_far (words ++ more))

-- the kind of a fault by its place
abbrev pub IsKind : Option PolicyMeaning → List Word → List Word → FaultKind → Type 0
IsKind None front words kind = kind ≡ NoHeader
IsKind (Some policy) front words kind = IsKindBehind (first_word policy.version ∷ []) front words kind

-- Behind front the line is faulty: it ends and is none that may stand here, or no continuation mends its next word.
abbrev pub IsFaultyLine : Option PolicyMeaning → List Word → List Word → Type 0
IsFaultyLine so_far front [] = MayStand so_far front → ⊥
IsFaultyLine so_far front (word ∷ words) = Begins so_far (front ++ word ∷ []) → ⊥

-- The first fault of a line: the words before it begin a line. Where there are as many rules and aggregates as there may
-- be, no words do, and none stand before it.
pub record IsLineFault (so_far : Option PolicyMeaning) (words : List Word) (kind : FaultKind) : Type 0 where
  pub front : List Word
  pub rest : List Word
  pub words_are : words ≡ front ++ rest
  pub begun : (front ≡ []) ⊎ Begins so_far front
  pub faulty : IsFaultyLine so_far front rest
  pub kind_is : IsKind so_far front rest kind

-- the policy that these lines spell; before the header there is none
abbrev pub SpellSoFar : List (List ℕ) → Option PolicyMeaning → Type 0
SpellSoFar lines None = AllByRecursion (λ line. is_skipped (words_of line) ≡ true) lines
SpellSoFar lines (Some policy) = AreAllLines lines policy

-- the first faulty line: those before it spell a policy so far
pub record IsFaultAt (lines : List (List ℕ)) (n : ℕ) (kind : FaultKind) : Type 0 where
  pub before : List (List ℕ)
  pub line : List ℕ
  pub others : List (List ℕ)
  pub so_far : Option PolicyMeaning
  pub lines_are : lines ≡ before ++ line ∷ others
  pub number_is : n ≡ length before + 1
  pub spelled : SpellSoFar before so_far
  pub counts : is_skipped (words_of line) ≡ false
  pub fault : IsLineFault so_far (words_of line) kind

-- the first fault of a text; a text without a header has it in line 1
abbrev pub IsFirstFault : List ℕ → Fault → Type 0
IsFirstFault text fault =
    IsFaultAt (lines_of text) fault.line fault.kind
    ⊎ (SpellSoFar (lines_of text) None × (fault ≡ record { line = 1; kind = NoHeader }))

-- The fault that reading answers is the text's first fault, and no other is.
abbrev pub FirstFault : Type 0
FirstFault = (text : List ℕ) (fault : Fault) → (policy_of text ≡ Err fault → IsFirstFault text fault) × (IsFirstFault text fault → policy_of text ≡ Err fault)

-- a text spells a policy and has no first fault, or it spells none and has exactly one
abbrev pub PolicyOrFault : Type 0
PolicyOrFault = (text : List ℕ) →
    ((policy : PolicyMeaning) × Spells text policy × ((fault : Fault) → IsFirstFault text fault → ⊥))
    ⊎ ((fault : Fault) × IsFirstFault text fault × ((other : Fault) → IsFirstFault text other → other ≡ fault) × ((policy : PolicyMeaning) → Spells text policy → ⊥))
