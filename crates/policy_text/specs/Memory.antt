-- Which texts take memory to be read: a name in a line is kept before the line's fault is known, and so are the rule
-- and the aggregate of a line without one.
use Rattle.std.specs.Prelude.{◌≡◌, ℕ, Bool, true, false, List, ◌∷◌, ◌++◌, length, Option, Some, None, Result, Ok, Err, is_ok, is_none, nat_lt, not, ◌&&◌, ◌||◌, if◌then◌else◌, codes}
use Rattle.std.specs.Str.{bytes_eq}
use Rattle.policy_text.specs.declared.fault.FaultKind.{FaultKind}
use Rattle.policy_text.specs.Words.{Word, words_of, lines_of, is_skipped}
use Rattle.policy_text.specs.Naming.{is_name}
use Rattle.policy_text.specs.Policies.{PolicyMeaning, Aggregate as Definition}
use Rattle.policy_text.specs.Classes.{place_of}
use Rattle.policy_text.specs.Lines.{next_of, behind_word, rule_of}
use Rattle.policy_text.specs.Spelling.{AreAllLines}

-- a word was read, and it is such a one
abbrev pub is_word_read : (Word → Bool) → Result (Word × List Word) FaultKind → Bool
is_word_read test (Ok x) = test x.0
is_word_read test (Err kind) = false

-- the next word is such a one
unfoldable pub is_next : (Word → Bool) → List Word → Bool
is_next test words = is_word_read test (next_of words)

-- a name that no line before defines
unfoldable pub is_new_name : List Definition → Word → Bool
is_new_name aggregates word = is_name word && is_none (place_of aggregates word)

-- behind words that could be read stands a name
abbrev pub name_follows : Result (List Word) FaultKind → Bool
name_follows (Ok words) = is_next is_name words
name_follows (Err kind) = false

-- behind `rule`: `for` and a name
unfoldable pub names_subscriber : List Word → Bool
names_subscriber words = name_follows (behind_word (codes "for") words)

-- a rule's line takes memory for the subscriber's name, and for the rule
unfoldable pub rule_takes : PolicyMeaning → List Word → Bool
rule_takes policy words = nat_lt (length policy.rules) 4096 && (names_subscriber words || is_ok (rule_of policy.version policy.aggregates words))

-- an aggregate's line takes memory for its name, and then for its key and the aggregate
unfoldable pub aggregate_takes : PolicyMeaning → List Word → Bool
aggregate_takes policy words = nat_lt (length policy.aggregates) 256 && is_next (is_new_name policy.aggregates) words

abbrev pub takes_by : PolicyMeaning → Result (Word × List Word) FaultKind → Bool
takes_by policy (Ok x) =
    if bytes_eq x.0 (codes "rule") then rule_takes policy x.1
    else (bytes_eq x.0 (codes "aggregate") && aggregate_takes policy x.1)
takes_by policy (Err kind) = false

unfoldable pub line_takes : PolicyMeaning → List Word → Bool
line_takes policy words = takes_by policy (next_of words)

-- a line that is skipped takes none, and nor does the header
unfoldable pub step_takes : Option PolicyMeaning → List ℕ → Bool
step_takes None line = false
step_takes (Some policy) line = not (is_skipped (words_of line)) && line_takes policy (words_of line)

-- A line takes memory, and those before it spell a policy so far: neither the header nor a line before it takes any, and no
-- line behind the first faulty one is read.
pub record TakesMemory (text : List ℕ) : Type 0 where
  pub before : List (List ℕ)
  pub line : List ℕ
  pub others : List (List ℕ)
  pub so_far : PolicyMeaning
  pub lines_are : lines_of text ≡ before ++ line ∷ others
  pub spelled : AreAllLines before so_far
  pub counts : is_skipped (words_of line) ≡ false
  pub takes : line_takes so_far (words_of line) ≡ true
