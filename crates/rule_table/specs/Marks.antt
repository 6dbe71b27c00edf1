-- The marks of a rule: numbers, each made of its subscriber and of one of its conditions. Two conditions may come to one mark,
-- which costs a look at a rule more and changes nothing else.
use Rattle.std.specs.Prelude.{ℕ, ◌+◌, ◌*◌, ◌/◌, ◌%◌, ◌^◌, List, [], ◌∷◌, Option, Some, None, option_map, if◌then◌else◌}
use Rattle.std.specs.List.{fold, filter_map}
use Rattle.ipfix_element.specs.Element.{Element}
use Rattle.flow_prefix.specs.declared.prefix.Prefix.{Prefix}
use Rattle.flow_prefix.specs.declared.prefix.Prefix.TheVariants.{V4, V6}
use Rattle.policy_text.specs.declared.rule.Rule.{Rule}
use Rattle.policy_judge.specs.declared.occurrences.Side.{Side}
use Rattle.policy_judge.specs.declared.occurrences.Side.TheVariants.{Source, Destination}
use Rattle.policy_judge.specs.Match.{is_on_records}

-- a mark with one number more
unfoldable pub mixed_mark : ℕ → ℕ → ℕ
mixed_mark mark number = (mark * 0x9E37_79B9_7F4A_7C15 % 2 ^ 64 + number) % 2 ^ 64

-- of a subscriber's name
unfoldable pub name_mark : List ℕ → ℕ
name_mark name = fold mixed_mark 1 name

-- 0 for any subscriber
abbrev pub who_mark : Option (List ℕ) → ℕ
who_mark None = 0
who_mark (Some name) = name_mark name

abbrev pub side_number : Side → ℕ
side_number Source = 1
side_number Destination = 2

-- of the addresses of this side that have these first bits
unfoldable pub inside_mark : ℕ → Side → ℕ → ℕ → ℕ → ℕ
inside_mark who side width length address =
    mixed_mark (mixed_mark (mixed_mark (mixed_mark (mixed_mark who (side_number side)) width) length) (address / 2 ^ 64)) (address % 2 ^ 64)

abbrev pub prefix_mark : ℕ → Side → Prefix → ℕ
prefix_mark who side (V4 net) = inside_mark who side 32 net.length net.address
prefix_mark who side (V6 net) = inside_mark who side 128 net.length net.address

-- of an observation domain
unfoldable pub domain_mark : ℕ → ℕ → ℕ
domain_mark who domain = mixed_mark (mixed_mark who 3) domain

abbrev pub pen_number : Option ℕ → ℕ
pen_number None = 0
pen_number (Some pen) = pen + 1

-- of an information element
unfoldable pub element_mark : ℕ → Element → ℕ
element_mark who e = mixed_mark (mixed_mark (mixed_mark who 4) (pen_number e.pen)) e.number

-- the element that a rule on fields names
abbrev pub named_element : Rule → Option Element
named_element rule = if is_on_records rule.action then None else rule.element

-- the marks of a rule's conditions, each where it has one: where the sources are, where the destinations are, the element, the domain
abbrev pub condition_marks : ℕ → Rule → List (Option ℕ)
condition_marks who rule =
    option_map (prefix_mark who Source) rule.from ∷ option_map (prefix_mark who Destination) rule.to ∷ option_map (element_mark who) (named_element rule) ∷ option_map (domain_mark who) rule.domain ∷ []

-- those that are there
abbrev pub present : List (Option ℕ) → List ℕ
present marks = filter_map (λ mark. mark) marks

-- the first that is there
abbrev pub either : Option ℕ → Option ℕ → Option ℕ
either None other = other
either (Some one) other = Some one

-- where there are none, another alone
abbrev pub or_alone : ℕ → List ℕ → List ℕ
or_alone who [] = who ∷ []
or_alone who (mark ∷ marks) = mark ∷ marks

-- all marks of a rule, each under which it may stand: of its conditions, and where it has none, of who alone
unfoldable pub marks_of : Rule → List ℕ
marks_of rule = or_alone (who_mark rule.who) (present (condition_marks (who_mark rule.who) rule))
