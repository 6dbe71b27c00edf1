-- The rules that decide of a record's rules: the first of each kind.
use Rattle.std.specs.Prelude.{◌≡◌, ℕ, ◌+◌, ◌*◌, ◌<◌, ◌≤◌, min, Bool, true, false, not, ◌==◌, ◌&&◌, length, Option, Some, None, is_none, position}
use Rattle.ipfix_element.specs.Element.{Element}
use Rattle.policy_text.specs.declared.rule.Rule.{Rule}
use Rattle.policy_judge.specs.Match.{is_on_records, is_same_element}
use Rattle.rule_table.specs.Candidates.{Judged, applies_in, has_element}

-- ---- the kinds of rules

abbrev pub on_records : Rule → Bool
on_records rule = is_on_records rule.action

-- on fields of any element
abbrev pub on_any : Rule → Bool
on_any rule = not (is_on_records rule.action) && is_none rule.element

abbrev pub is_named : Element → Option Element → Bool
is_named e None = false
is_named e (Some f) = is_same_element e f

-- on fields of this element, which the rule names
abbrev pub is_on_element : Element → Rule → Bool
is_on_element e rule = not (is_on_records rule.action) && is_named e rule.element

-- ---- an element as one number, since elements' numbers are below 32768

abbrev pub pen_key : Option ℕ → ℕ
pen_key None = 0
pen_key (Some pen) = pen + 1

abbrev pub element_key : Element → ℕ
element_key e = pen_key e.pen * 32768 + e.number

abbrev pub is_key : ℕ → Option ℕ → Bool
is_key key None = false
is_key key (Some other) = key == other

-- ---- the first of each kind

-- the smaller of two places, if both are there
abbrev pub earlier : Option ℕ → Option ℕ → Option ℕ
earlier None other = other
earlier (Some one) None = Some one
earlier (Some one) (Some other) = Some (min one other)

-- the places of the first rules that apply: on records, on fields of any element, and on those of each element that a field has
pub record AreFirsts (judged : Judged) (records any : Option ℕ) (named : ℕ → Option ℕ) : Type 0 where
  pub few : length judged.rules ≤ 4096
  pub of_records : records ≡ position (λ rule. on_records rule && applies_in judged rule) judged.rules
  pub of_any : any ≡ position (λ rule. on_any rule && applies_in judged rule) judged.rules
  pub of_element : (e : Element) → e.number < 32768 → has_element judged.flow_record.template.fields e ≡ true
      → named (element_key e) ≡ position (λ rule. is_on_element e rule && applies_in judged rule) judged.rules
