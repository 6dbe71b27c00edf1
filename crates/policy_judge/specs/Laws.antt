-- What never matters to a verdict.
use Rattle.std.specs.Prelude.{◌≡◌, ℕ, Bool, true, false, List, ◌++◌, ◌∷◌, [], filter, Option, option_map}
use Rattle.std.specs.Str.{bytes_eq}
use Rattle.ipfix_element.specs.Element.{Element}
use Rattle.ipfix_template.specs.DataRecord.{DataRecord}
use Rattle.policy_text.specs.declared.rule.Rule.{Rule}
use Rattle.policy_judge.specs.Match.{is_met, element_at, matches_record, matches_field}
use Rattle.policy_judge.specs.Verdicts.{first_rule, record_verdict_of, element_verdict_of}

-- the rule names this subscriber, or any
abbrev pub concerns : List ℕ → Rule → Bool
concerns name rule = is_met (bytes_eq name) rule.who

-- the rules, without those that name another subscriber
abbrev pub concerning : List ℕ → List Rule → List Rule
concerning name rules = filter (concerns name) rules

-- the first rule that matches, as a rule and not as a number
abbrev pub deciding_rule : (Rule → Bool) → List Rule → Option Rule
deciding_rule matches rules = option_map (λ first. first.1) (first_rule matches rules)

-- a rule that names another subscriber matches no record and no field
pub record NeverMatches : Type 0 where
  pub record_of : (name : List ℕ) (domain : ℕ) (r : DataRecord) (rule : Rule) → concerns name rule ≡ false → matches_record name domain r rule ≡ false
  pub field_of : (name : List ℕ) (domain : ℕ) (r : DataRecord) (element : Option Element) (rule : Rule) → concerns name rule ≡ false
      → matches_field name domain r element rule ≡ false

-- without the rules that name another subscriber, the same rule decides
pub record DecidesAlone : Type 0 where
  pub on_record : (name : List ℕ) (domain : ℕ) (r : DataRecord) (rules : List Rule)
      → deciding_rule (matches_record name domain r) (concerning name rules) ≡ deciding_rule (matches_record name domain r) rules
  pub on_field : (name : List ℕ) (domain : ℕ) (r : DataRecord) (element : Option Element) (rules : List Rule)
      → deciding_rule (matches_field name domain r element) (concerning name rules) ≡ deciding_rule (matches_field name domain r element) rules

-- and it does the same
pub record ActsAlone : Type 0 where
  pub on_record : (name : List ℕ) (domain : ℕ) (r : DataRecord) (rules : List Rule)
      → (record_verdict_of name domain r (concerning name rules)).action ≡ (record_verdict_of name domain r rules).action
  pub on_field : (name : List ℕ) (domain : ℕ) (r : DataRecord) (place : ℕ) (rules : List Rule)
      → (element_verdict_of name domain r place (concerning name rules)).action ≡ (element_verdict_of name domain r place rules).action

-- what stands behind a rule that matches decides nothing, whatever stands before it
pub record LaterNeverMatters : Type 0 where
  pub on_record : (name : List ℕ) (domain : ℕ) (r : DataRecord) (front : List Rule) (rule : Rule) (back : List Rule) → matches_record name domain r rule ≡ true
      → record_verdict_of name domain r (front ++ rule ∷ back) ≡ record_verdict_of name domain r (front ++ rule ∷ [])
  pub on_field : (name : List ℕ) (domain : ℕ) (r : DataRecord) (place : ℕ) (front : List Rule) (rule : Rule) (back : List Rule)
      → matches_field name domain r (element_at r place) rule ≡ true
      → element_verdict_of name domain r place (front ++ rule ∷ back) ≡ element_verdict_of name domain r place (front ++ rule ∷ [])
