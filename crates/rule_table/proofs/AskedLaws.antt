-- All marks of each rule that may match are among those that are looked up.
use Rattle.std.proofs.Common.{◌≡◌, ℕ, true, false, List, [], ◌∷◌, ◌++◌, length, Option, Some, None, IfSome, cond, option_map, refl, ap, sym, ◌∙◌, subst, ◌==◌, ◌&&◌, ◌⊎◌, inl, inr, arith}
use Rattle.std.specs.List.{Contains, list_any, zip, filter_map, cons_option}
use Rattle.std.specs.Str.{bytes_eq}
use Rattle.std.proofs.lemmas.Bool.{and_parts, eqb-true}
use Rattle.std.proofs.lemmas.Slice.Eq.{bytes_eq-Decides}
use Rattle.std.proofs.lemmas.List.Elements.{Contains-append_left, Contains-append_right, Contains-push}
use Rattle.sequences.specs.Octets.{be_value}
use Rattle.flow_prefix.specs.declared.prefix.Prefix.{Prefix}
use Rattle.flow_prefix.specs.declared.prefix.Prefix.TheVariants.{V4, V6}
use Rattle.flow_prefix.specs.Bits.{truncated}
use Rattle.flow_prefix.specs.Net.{is_inside}
use Rattle.flow_prefix.specs.Prefixes.{contains}
use Rattle.ipfix_element.specs.Element.{Element}
use Rattle.ipfix_element.proofs.NameLaws.{same_element}
use Rattle.ipfix_template.specs.Equality.{same_pen}
use Rattle.ipfix_template.specs.declared.field.FieldSpec.{FieldSpec}
use Rattle.ipfix_template.specs.DataRecord.{DataRecord}
use Rattle.policy_text.specs.declared.rule.Rule.{Rule}
use Rattle.policy_judge.specs.declared.occurrences.Side.{Side}
use Rattle.policy_judge.specs.declared.occurrences.Side.TheVariants.{Source, Destination}
use Rattle.policy_judge.specs.Occurrences.{values_of, sources, destinations}
use Rattle.policy_judge.specs.Sides.{is_of}
use Rattle.policy_judge.specs.Match.{is_met, is_for, is_same_element}
use Rattle.policy_judge.proofs.OccurrenceLaws.{any_picked}
use Rattle.rule_table.specs.declared.addresses.Address.{Address}
use Rattle.rule_table.specs.declared.addresses.Shape.{Shape}
use Rattle.rule_table.specs.Addresses.{address_value, address_at, addresses_of, shape_of}
use Rattle.rule_table.specs.Marks.{name_mark, who_mark, inside_mark, prefix_mark, domain_mark, element_mark, named_element, condition_marks, present, or_alone, marks_of}
use Rattle.rule_table.specs.Asked.{asked_at, asked_of, asked_elements, with_asked, asked_by, asked_marks}
use Rattle.rule_table.specs.Candidates.{touches, has_element, may_match}
use Rattle.rule_table.proofs.Members.{Passing, passing, given, joined, mapped, member}

-- ---- an address inside a prefix is asked for by the prefix's mark

-- the address that a value inside the prefix writes
abbrev address_in : Prefix → List ℕ → Address
address_in (V4 net) octets = record { width = 32; number = be_value octets }
address_in (V6 net) octets = record { width = 128; number = be_value octets }

address_inside : (prefix : Prefix) (octets : List ℕ) → contains prefix octets ≡ true → address_value octets ≡ Some (address_in prefix octets)
address_inside (V4 net) octets e = rw ((and_parts (length octets == 4) (is_inside 32 net (be_value octets)) e).0) refl
address_inside (V6 net) octets e =
    let wide = (and_parts (length octets == 16) (is_inside 128 net (be_value octets)) e).0 in
    let other : (length octets == 4) ≡ false = ap (λ n. n == 4) (eqb-true (length octets) 16 wide) in
    rw (other, wide) refl

asked_inside : (who : ℕ) (side : Side) (prefix : Prefix) (octets : List ℕ) → contains prefix octets ≡ true
    → asked_at who side (address_in prefix octets) (shape_of prefix) ≡ Some (prefix_mark who side prefix)
asked_inside who side (V4 net) octets e =
    let inside = (and_parts (length octets == 4) (is_inside 32 net (be_value octets)) e).1 in
    ap (λ n. Some (inside_mark who side 32 net.length n)) (eqb-true (truncated 32 net.length (be_value octets)) net.address inside)
asked_inside who side (V6 net) octets e =
    let inside = (and_parts (length octets == 16) (is_inside 128 net (be_value octets)) e).1 in
    ap (λ n. Some (inside_mark who side 128 net.length n)) (eqb-true (truncated 128 net.length (be_value octets)) net.address inside)

asked_field : (who : ℕ) (side : Side) (shapes : List Shape) (r : DataRecord) (prefix : Prefix) (field : FieldSpec × List ℕ) → Contains (zip r.template.fields r.values) field
    → is_of side field.0.element ≡ true → contains prefix field.1 ≡ true → Contains shapes (shape_of prefix)
    → Contains (asked_of who side shapes (addresses_of side r)) (prefix_mark who side prefix)
asked_field who side shapes r prefix field among is inside shaped =
    let address = address_in prefix field.1 in
    let read : address_at side field ≡ Some address = ap (λ b. cond b (address_value field.1) None) is ∙ address_inside prefix field.1 inside in
    let there = given (address_at side) (zip r.template.fields r.values) field address among read in
    let marked = given (asked_at who side address) shapes (shape_of prefix) (prefix_mark who side prefix) shaped (asked_inside who side prefix field.1 inside) in
    joined (λ a. filter_map (asked_at who side a) shapes) (addresses_of side r) address (prefix_mark who side prefix) there marked

pub asked_prefix : (who : ℕ) (side : Side) (shapes : List Shape) (r : DataRecord) (prefix : Prefix) → list_any (contains prefix) (values_of (is_of side) r) ≡ true
    → Contains shapes (shape_of prefix) → Contains (asked_of who side shapes (addresses_of side r)) (prefix_mark who side prefix)
asked_prefix who side shapes r prefix some shaped =
    let fields = zip r.template.fields r.values in
    let any = any_picked {A = FieldSpec × List ℕ} (λ p. is_of side p.0.element) (λ p. p.1) (contains prefix) fields in
    let p : Passing (λ (p : FieldSpec × List ℕ). is_of side p.0.element && contains prefix p.1) fields = passing _ fields (sym any ∙ some) in
    let both = and_parts (is_of side p.item.0.element) (contains prefix p.item.1) p.passes in
    asked_field who side shapes r prefix p.item p.among both.0 both.1 shaped

-- ---- the element of a field is asked for

pen_is : (a b : Option ℕ) → same_pen a b ≡ true → a ≡ b
pen_is None None e = refl
pen_is (Some a) (Some b) e = ap Some (eqb-true a b e)
pen_is None (Some b) e = absurd (cc)
pen_is (Some a) None e = absurd (cc)

pub element_is : (e f : Element) → is_same_element e f ≡ true → e ≡ f
element_is e f is =
    let parts = and_parts (same_pen e.pen f.pen) (e.number == f.number) is in
    same_element e f (pen_is e.pen f.pen parts.0) (eqb-true e.number f.number parts.1)

asked_element : (who : ℕ) (fields : List FieldSpec) (e : Element) → has_element fields e ≡ true → Contains (asked_elements who fields) (element_mark who e)
asked_element who fields e has =
    let p : Passing (λ (f : FieldSpec). is_same_element f.element e) fields = passing _ fields has in
    let P : Element → Type 0 = λ f. Contains (asked_elements who fields) (element_mark who f) in
    subst P (element_is p.item.element e p.passes) (mapped (λ (f : FieldSpec). element_mark who f.element) fields p.item p.among)

-- ---- what is asked with others

kept : (who domain : ℕ) (elements from to marks : List ℕ) (m : ℕ) → Contains marks m → Contains (with_asked who domain elements from to marks) m
kept who domain elements from to marks m c =
    Contains-append_left _ _ m (Contains-append_left _ _ m (Contains-append_left _ _ m (Contains-append_left _ _ m (Contains-append_left _ _ m c))))

in_who : (who domain : ℕ) (elements from to marks : List ℕ) → Contains (with_asked who domain elements from to marks) who
in_who who domain elements from to marks =
    Contains-append_left _ _ who (Contains-append_left _ _ who (Contains-append_left _ _ who (Contains-append_left _ _ who (Contains-push marks who))))

in_domain : (who domain : ℕ) (elements from to marks : List ℕ) → Contains (with_asked who domain elements from to marks) (domain_mark who domain)
in_domain who domain elements from to marks =
    Contains-append_left _ _ _ (Contains-append_left _ _ _ (Contains-append_left _ _ _ (Contains-push (marks ++ who ∷ []) (domain_mark who domain))))

in_elements : (who domain : ℕ) (elements from to marks : List ℕ) (m : ℕ) → Contains elements m → Contains (with_asked who domain elements from to marks) m
in_elements who domain elements from to marks m c =
    let front = marks ++ who ∷ [] ++ domain_mark who domain ∷ [] in
    Contains-append_left (front ++ elements ++ from) to m (Contains-append_left (front ++ elements) from m (Contains-append_right front elements m c))

in_from : (who domain : ℕ) (elements from to marks : List ℕ) (m : ℕ) → Contains from m → Contains (with_asked who domain elements from to marks) m
in_from who domain elements from to marks m c =
    let front = marks ++ who ∷ [] ++ domain_mark who domain ∷ [] ++ elements in
    Contains-append_left (front ++ from) to m (Contains-append_right front from m c)

in_to : (who domain : ℕ) (elements from to marks : List ℕ) (m : ℕ) → Contains to m → Contains (with_asked who domain elements from to marks) m
in_to who domain elements from to marks m c =
    let front = marks ++ who ∷ [] ++ domain_mark who domain ∷ [] ++ elements ++ from in Contains-append_right front to m c

-- ---- each mark of a condition is asked for, where the condition is met

from_asked : (ss ds : List Shape) (r : DataRecord) (domain : ℕ) (from : Option Prefix) → is_met (λ prefix. list_any (contains prefix) (sources r)) from ≡ true
    → IfSome from (λ prefix. Contains ss (shape_of prefix)) → (who : ℕ) (marks : List ℕ) → IfSome (option_map (prefix_mark who Source) from) (λ m. Contains (asked_by who domain ss ds r marks) m)
from_asked ss ds r domain None met shaped who marks = tt
from_asked ss ds r domain (Some from) met shaped who marks =
    in_from who domain (asked_elements who r.template.fields) _ _ marks _ (asked_prefix who Source ss r from met shaped)

to_asked : (ss ds : List Shape) (r : DataRecord) (domain : ℕ) (to : Option Prefix) → is_met (λ prefix. list_any (contains prefix) (destinations r)) to ≡ true
    → IfSome to (λ prefix. Contains ds (shape_of prefix)) → (who : ℕ) (marks : List ℕ) → IfSome (option_map (prefix_mark who Destination) to) (λ m. Contains (asked_by who domain ss ds r marks) m)
to_asked ss ds r domain None met shaped who marks = tt
to_asked ss ds r domain (Some to) met shaped who marks =
    in_to who domain (asked_elements who r.template.fields) _ _ marks _ (asked_prefix who Destination ds r to met shaped)

element_asked : (ss ds : List Shape) (r : DataRecord) (domain : ℕ) (element : Option Element) → is_met (has_element r.template.fields) element ≡ true
    → (who : ℕ) (marks : List ℕ) → IfSome (option_map (element_mark who) element) (λ m. Contains (asked_by who domain ss ds r marks) m)
element_asked ss ds r domain None met who marks = tt
element_asked ss ds r domain (Some element) met who marks =
    in_elements who domain (asked_elements who r.template.fields) _ _ marks _ (asked_element who r.template.fields element met)

domain_asked : (ss ds : List Shape) (r : DataRecord) (domain : ℕ) (d : Option ℕ) → is_met (λ n. n == domain) d ≡ true
    → (who : ℕ) (marks : List ℕ) → IfSome (option_map (domain_mark who) d) (λ m. Contains (asked_by who domain ss ds r marks) m)
domain_asked ss ds r domain None met who marks = tt
domain_asked ss ds r domain (Some d) met who marks =
    let same : domain ≡ d = sym (eqb-true d domain met) in
    let P : ℕ → Type 0 = λ n. Contains (asked_by who domain ss ds r marks) (domain_mark who n) in
    subst P same (in_domain who domain (asked_elements who r.template.fields) (asked_of who Source ss (addresses_of Source r)) (asked_of who Destination ds (addresses_of Destination r)) marks)

-- ---- what holds of each mark that is present holds of each of them

none_present : (P : ℕ → Type 0) (m : ℕ) → Contains [] m → P m
none_present P m (k, l, at) = absurd (omega arith)

first_or : (P : ℕ → Type 0) (x : ℕ) (others : List ℕ) (m : ℕ) → P x → (Contains others m → P m) → (x ≡ m) ⊎ Contains others m → P m
first_or P x others m first rest (inl same) = subst P same first
first_or P x others m first rest (inr among) = rest among

present_or : (P : ℕ → Type 0) (mark : Option ℕ) (others : List ℕ) → IfSome mark P → ((m : ℕ) → Contains others m → P m) → (m : ℕ) → Contains (cons_option mark others) m → P m
present_or P None others first rest m c = rest m c
present_or P (Some x) others first rest m c = first_or P x others m first (rest m) (member x m others c)

each_present : (P : ℕ → Type 0) (a b c d : Option ℕ) → IfSome a P → IfSome b P → IfSome c P → IfSome d P → (m : ℕ) → Contains (present (a ∷ b ∷ c ∷ d ∷ [])) m → P m
each_present P a b c d pa pb pc pd =
    present_or P a (present (b ∷ c ∷ d ∷ [])) pa (present_or P b (present (c ∷ d ∷ [])) pb (present_or P c (present (d ∷ [])) pc (present_or P d [] pd (none_present P))))

alone_or : (P : ℕ → Type 0) (who : ℕ) (marks : List ℕ) → P who → ((m : ℕ) → Contains marks m → P m) → (m : ℕ) → Contains (or_alone who marks) m → P m
alone_or P who [] alone each m c = first_or P who [] m alone (none_present P m) (member who m [] c)
alone_or P who (x ∷ xs) alone each m c = each m c

-- ---- the marks of a rule

for_whom : (name : List ℕ) (domain : ℕ) (ss ds : List Shape) (r : DataRecord) (who : Option (List ℕ)) (marks_by : ℕ → List ℕ) (m : ℕ)
    → ((w : ℕ) (marks : List ℕ) → Contains (marks_by w) m → Contains (asked_by w domain ss ds r marks) m) → is_met (bytes_eq name) who ≡ true
    → Contains (marks_by (who_mark who)) m → Contains (asked_marks name domain ss ds r) m
for_whom name domain ss ds r None marks_by m each e own = kept (name_mark name) domain _ _ _ (asked_by 0 domain ss ds r []) m (each 0 [] own)
for_whom name domain ss ds r (Some w) marks_by m each e own =
    let same : name ≡ w = (bytes_eq-Decides name w).0 e in
    let P : List ℕ → Type 0 = λ n. Contains (marks_by (name_mark n)) m → Contains (asked_marks name domain ss ds r) m in
    subst P same (each (name_mark name) (asked_by 0 domain ss ds r [])) own

pub asked_rule : (name : List ℕ) (domain : ℕ) (ss ds : List Shape) (r : DataRecord) (rule : Rule) → may_match name domain r rule ≡ true
    → IfSome rule.from (λ prefix. Contains ss (shape_of prefix)) → IfSome rule.to (λ prefix. Contains ds (shape_of prefix))
    → (m : ℕ) → Contains (marks_of rule) m → Contains (asked_marks name domain ss ds r) m
unfolding marks_of
asked_rule name domain ss ds r rule e sf st m own =
    let parts = and_parts (is_for name domain rule) (touches r rule && is_met (has_element r.template.fields) (named_element rule)) e in
    let whom = and_parts (is_met (bytes_eq name) rule.who) (is_met (λ d. d == domain) rule.domain) parts.0 in
    let rest = and_parts (touches r rule) (is_met (has_element r.template.fields) (named_element rule)) parts.1 in
    let ends = and_parts (is_met (λ prefix. list_any (contains prefix) (sources r)) rule.from) (is_met (λ prefix. list_any (contains prefix) (destinations r)) rule.to) rest.0 in
    let each : (w : ℕ) (marks : List ℕ) → Contains (or_alone w (present (condition_marks w rule))) m → Contains (asked_by w domain ss ds r marks) m = λ w marks.
    let P : ℕ → Type 0 = λ n. Contains (asked_by w domain ss ds r marks) n in
    alone_or P w (present (condition_marks w rule)) (in_who w domain (asked_elements w r.template.fields) _ _ marks)
    (each_present P (option_map (prefix_mark w Source) rule.from) (option_map (prefix_mark w Destination) rule.to) (option_map (element_mark w) (named_element rule)) (option_map (domain_mark w) rule.domain)
    (from_asked ss ds r domain rule.from ends.0 sf w marks) (to_asked ss ds r domain rule.to ends.1 st w marks) (element_asked ss ds r domain (named_element rule) rest.1 w marks) (domain_asked ss ds r domain rule.domain whom.1 w marks)) m in
    for_whom name domain ss ds r rule.who (λ w. or_alone w (present (condition_marks w rule))) m each whom.0 own
