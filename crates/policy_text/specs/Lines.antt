-- What the words of a line stand for, read from the left, or the fault of the first word that doesn't fit.
use Rattle.std.specs.Prelude.{ℕ, Bool, true, false, List, [], ◌∷◌, length, Option, Some, None, Result, Ok, Err, nat_le, ◌&&◌, if◌then◌else◌, codes}
use Rattle.std.specs.Str.{bytes_eq}
use Rattle.ipfix_element.specs.Element.{Element}
use Rattle.sequences.specs.Results.{◌>>=◌}
use Rattle.policy_text.specs.declared.fault.FaultKind.{FaultKind}
use Rattle.policy_text.specs.declared.fault.FaultKind.TheVariants.{UnknownWord, BadTruncate, TooMany, BadDegrade}
use Rattle.policy_text.specs.declared.rule.Rule.{Rule}
use Rattle.policy_text.specs.declared.rule.Action.{Action}
use Rattle.policy_text.specs.declared.rule.Action.TheVariants.{Pass, Withhold, Aggregate, Keep, Remove, Truncate, Degrade}
use Rattle.policy_text.specs.declared.version.Version.{Version}
use Rattle.policy_text.specs.Words.{Word}
use Rattle.policy_text.specs.Policies.{PolicyMeaning, has_degrade, with_aggregate, with_rule, Aggregate as Definition}
use Rattle.policy_text.specs.Classes.{name, number, element, prefix, or_star, key_of, width_at, is_time_at, aggregate_place, new_name, interval, bits_within}

-- the next word and those after it; in a line that ends early it is missing
unfoldable pub next_of : List Word → Result (Word × List Word) FaultKind
next_of [] = Err UnknownWord
next_of (word ∷ words) = Ok (word, words)

-- the next word by its class, and the words after it
unfoldable pub next : {A : Type 0} → (Word → Result A FaultKind) → List Word → Result (A × List Word) FaultKind
next class words = do
  w ← next_of words
  a ← class w.0
  Ok (a, w.1)

-- the words after this keyword
unfoldable pub behind_word : Word → List Word → Result (List Word) FaultKind
behind_word word words = do
  w ← next_of words
  if bytes_eq w.0 word then Ok w.1 else Err UnknownWord

-- that no word is left
unfoldable pub end_of_words : List Word → Result (Unit {0}) FaultKind
end_of_words [] = Ok tt
end_of_words (word ∷ words) = Err UnknownWord

-- what `truncate` asks of an element of this width
unfoldable pub truncate_of : Option ℕ → List Word → Result (Action × List Word) FaultKind
truncate_of None words = Err BadTruncate
truncate_of (Some width) words = do
  bits ← next (bits_within width) words
  Ok (Truncate bits.0, bits.1)

-- what `degrade` asks of an element whose values are times or not
unfoldable pub degrade_of : Bool → List Word → Result (Action × List Word) FaultKind
degrade_of false words = Err BadDegrade
degrade_of true words = do
  seconds ← next interval words
  Ok (Degrade seconds.0, seconds.1)

-- behind `element ELEM`, in a text of this version
unfoldable pub read_element_action : Version → Option Element → List Word → Result (Action × List Word) FaultKind
read_element_action version e words = do
  w ← next_of words
  if bytes_eq w.0 (codes "keep") then Ok (Keep, w.1)
      else if bytes_eq w.0 (codes "remove") then Ok (Remove, w.1)
      else if bytes_eq w.0 (codes "truncate") then truncate_of (width_at e) w.1
      else if has_degrade version && bytes_eq w.0 (codes "degrade") then degrade_of (is_time_at e) w.1
      else Err UnknownWord

-- behind `aggregate`
unfoldable pub aggregate_action : List Definition → List Word → Result ((Option Element × Action) × List Word) FaultKind
aggregate_action aggregates words = do
  place ← next (aggregate_place aggregates) words
  Ok ((None, Aggregate place.0), place.1)

-- behind `element`
unfoldable pub on_element : Version → List Word → Result ((Option Element × Action) × List Word) FaultKind
on_element version words = do
  e ← next (or_star element) words
  action ← read_element_action version e.0 e.1
  Ok ((e.0, action.0), action.1)

-- an action with its element
unfoldable pub action_of : Version → List Definition → List Word → Result ((Option Element × Action) × List Word) FaultKind
action_of version aggregates words = do
  w ← next_of words
  if bytes_eq w.0 (codes "pass") then Ok ((None, Pass), w.1)
      else if bytes_eq w.0 (codes "withhold") then Ok ((None, Withhold), w.1)
      else if bytes_eq w.0 (codes "aggregate") then aggregate_action aggregates w.1
      else if bytes_eq w.0 (codes "element") then on_element version w.1
      else Err UnknownWord

-- behind `rule`
unfoldable pub rule_of : Version → List Definition → List Word → Result Rule FaultKind
rule_of version aggregates words = do
  a ← behind_word (codes "for") words
  who ← next (or_star name) a
  b ← behind_word (codes "in") who.1
  domain ← next (or_star (number 4294967295)) b
  c ← behind_word (codes "from") domain.1
  from ← next (or_star prefix) c
  d ← behind_word (codes "to") from.1
  to ← next (or_star prefix) d
  done ← action_of version aggregates to.1
  nothing_more ← end_of_words done.1
  Ok (record { who = who.0; domain = domain.0; from = from.0; to = to.0; element = done.0.0; action = done.0.1 })

-- behind `aggregate` at the start of a line
unfoldable pub aggregate_of : List Definition → List Word → Result Definition FaultKind
aggregate_of aggregates words = do
  name ← next (new_name aggregates) words
  a ← behind_word (codes "key") name.1
  key ← next key_of a
  b ← behind_word (codes "interval") key.1
  seconds ← next interval b
  c ← behind_word (codes "grace") seconds.1
  grace ← next (number 86400) c
  nothing_more ← end_of_words grace.1
  Ok (record { name = name.0; key = key.0; interval = seconds.0; grace = grace.0 })

-- the policy with one rule more
unfoldable pub rule_line : PolicyMeaning → List Word → Result PolicyMeaning FaultKind
rule_line policy words = if nat_le 4096 (length policy.rules) then Err TooMany else (rule_of policy.version policy.aggregates words >>= λ r. Ok (with_rule policy r))

-- the policy with one aggregate more
unfoldable pub aggregate_line : PolicyMeaning → List Word → Result PolicyMeaning FaultKind
aggregate_line policy words = if nat_le 256 (length policy.aggregates) then Err TooMany else (aggregate_of policy.aggregates words >>= λ a. Ok (with_aggregate policy a))

-- the policy after a line
unfoldable pub policy_after_line : PolicyMeaning → List Word → Result PolicyMeaning FaultKind
policy_after_line policy words = do
  w ← next_of words
  if bytes_eq w.0 (codes "rule") then rule_line policy w.1
      else if bytes_eq w.0 (codes "aggregate") then aggregate_line policy w.1
      else Err UnknownWord
