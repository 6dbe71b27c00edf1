-- Which records and fields a rule matches: this project's own rule.
use Rattle.std.specs.Prelude.{ℕ, Bool, true, false, List, length, Option, Some, None, option_map, slice_get, nat_lt, not, ◌==◌, ◌&&◌}
use Rattle.std.specs.List.{list_any, list_all}
use Rattle.std.specs.Str.{bytes_eq}
use Rattle.ipfix_element.specs.Element.{Element}
use Rattle.ipfix_template.specs.DataRecord.{DataRecord}
use Rattle.ipfix_template.specs.Equality.{same_pen}
use Rattle.flow_prefix.specs.declared.prefix.Prefix.{Prefix}
use Rattle.flow_prefix.specs.Prefixes.{contains}
use Rattle.policy_text.specs.declared.rule.Rule.{Rule}
use Rattle.policy_text.specs.declared.rule.Action.{Action}
use Rattle.policy_text.specs.declared.rule.Action.TheVariants.{Pass, Withhold, Aggregate, Keep, Remove, Truncate, Degrade}
use Rattle.policy_judge.specs.Occurrences.{sources, destinations}

-- `*` is no condition
abbrev pub is_met : {A : Type 0} → (A → Bool) → Option A → Bool
is_met condition None = true
is_met condition (Some a) = condition a

-- whether a rule of this action is one on records, or else one on fields
abbrev pub is_on_records : Action → Bool
is_on_records Pass = true
is_on_records Withhold = true
is_on_records (Aggregate place) = true
is_on_records Keep = false
is_on_records Remove = false
is_on_records (Truncate bits) = false
is_on_records (Degrade seconds) = false

-- whether a rule of this action denies, or else permits
abbrev pub denies : Action → Bool
denies Pass = false
denies Withhold = true
denies (Aggregate place) = false
denies Keep = false
denies Remove = true
denies (Truncate bits) = false
denies (Degrade seconds) = false

-- a rule that denies needs some occurrence inside; one that permits needs an occurrence, and each of them inside
abbrev pub are_inside : Bool → List (List ℕ) → Prefix → Bool
are_inside true occurrences prefix = list_any (contains prefix) occurrences
are_inside false occurrences prefix = nat_lt 0 (length occurrences) && list_all (contains prefix) occurrences

-- the subscriber, and the observation domain
abbrev pub is_for : List ℕ → ℕ → Rule → Bool
is_for name domain rule = is_met (bytes_eq name) rule.who && is_met (λ d. d == domain) rule.domain

-- the prefixes that the rule names
abbrev pub covers : DataRecord → Rule → Bool
covers r rule = is_met (are_inside (denies rule.action) (sources r)) rule.from && is_met (are_inside (denies rule.action) (destinations r)) rule.to

-- the rules on records that match
abbrev pub matches_record : List ℕ → ℕ → DataRecord → Rule → Bool
matches_record name domain r rule = is_on_records rule.action && (is_for name domain rule && covers r rule)

abbrev pub is_same_element : Element → Element → Bool
is_same_element e f = same_pen e.pen f.pen && e.number == f.number

-- the element of the field at this place
abbrev pub element_at : DataRecord → ℕ → Option Element
element_at r place = option_map (λ f. f.element) (slice_get r.template.fields place)

-- this is that element
abbrev pub is_element : Option Element → Element → Bool
is_element None e = false
is_element (Some f) e = is_same_element f e

-- the rules on fields that match a field of this element
abbrev pub matches_field : List ℕ → ℕ → DataRecord → Option Element → Rule → Bool
matches_field name domain r element rule =
    not (is_on_records rule.action) && (is_met (is_element element) rule.element && (is_for name domain rule && covers r rule))
