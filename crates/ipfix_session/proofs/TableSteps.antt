-- What a table has under each ID, by what its two kinds have there.
use Rattle.std.proofs.Common.{◌≡◌, ℕ, Bool, true, false, cond, not, List, [], ◌∷◌, ◌++◌, Option, Some, None, refl, sym, ap, ◌∙◌, subst}
use Rattle.std.specs.Prelude.{IfSome}
use Rattle.std.specs.Ordering.{nat_cmp}
use Rattle.std.specs.Option.{option_or}
use Rattle.std.specs.BTreeMap.{is_at}
use Rattle.ipfix_template.specs.declared.template.Template.{Template}
use Rattle.ipfix_template.specs.Template.{is_options}
use Rattle.ipfix_session.specs.declared.template_map.TemplateMap.{TemplateMap}
use Rattle.ipfix_session.specs.InForce.{same_kind, unless_of_kind}
use Rattle.ipfix_session.specs.Keeping.{at_key, IsKeepable}
use Rattle.ipfix_session.specs.Places.{Tabled, HasPlaces}
use Rattle.ipfix_session.specs.TemplateMaps.{shown_on, in_map, has_place, places_on}
use Rattle.ipfix_session.specs.Tables.{IsOfKind, IsOneOfKind, unless_withdrawn, template_after}
use Rattle.ipfix_session.proofs.MapSteps.{map-at, places_are, places_there}

-- ---- the plain template of an ID, or else its options template

or-plain : (here : Bool) (t : Template) (plain options : Option Template) → option_or (cond here (Some t) plain) options ≡ cond here (Some t) (option_or plain options)
or-plain true t plain options = refl
or-plain false t plain options = refl

at_append : (q : ℕ) (xs ys : List (ℕ × Template)) → at_key q (xs ++ ys) ≡ option_or (at_key q xs) (at_key q ys)
at_append q [] ys = refl
at_append q (x ∷ xs) ys = ap (cond (is_at (nat_cmp q) x.0) (Some x.1)) (at_append q xs ys) ∙ sym (or-plain (is_at (nat_cmp q) x.0) x.1 (at_key q xs) (at_key q ys))

pub table-at : (plain options : TemplateMap) (q : ℕ) → at_key q (shown_on plain ++ shown_on options) ≡ option_or (in_map plain q) (in_map options q)
table-at plain options q = at_append q (shown_on plain) (shown_on options) ∙ (λ i. option_or (map-at plain q i) (map-at options q i))

-- the same by what a table was seen as
abbrev pub tabled : TemplateMap → TemplateMap → Tabled
tabled plain options = record { templates = shown_on plain ++ shown_on options; places = record { plain = places_on plain; options = places_on options } }

pub table-now : (plain options : TemplateMap) (now : Tabled) → tabled plain options ≡ now → (q : ℕ) → option_or (in_map plain q) (in_map options q) ≡ at_key q now.templates
table-now plain options now is q = sym (table-at plain options q) ∙ ap (λ (t : Tabled). at_key q t.templates) is

pub keepable_of : (plain options : Option Template) → IsOneOfKind plain options → IfSome (option_or plain options) IsKeepable
keepable_of None None one = tt
keepable_of (Some t) None one = one.keepable
keepable_of None (Some t) one = one.keepable
keepable_of (Some t) (Some u) one = absurd one

-- ---- room that is made

abbrev pub HavePlaces : TemplateMap → TemplateMap → Type 0
HavePlaces there need = (q : ℕ) → has_place need q ≡ true → has_place there q ≡ true

pub room_made : (plain options need_plain need_options : TemplateMap) (need : Tabled) → tabled need_plain need_options ≡ need → HavePlaces plain need_plain → HavePlaces options need_options → HasPlaces (tabled plain options).places need.places
room_made plain options need_plain need_options need is p o =
    subst (λ (t : Tabled). HasPlaces (tabled plain options).places t.places) is (record { plain = places_are need_plain plain p; options = places_are need_options options o })

-- room of a table, by its maps
pub record HasMaps (plain options need_plain need_options : TemplateMap) : Type 0 where
  pub plains : HavePlaces plain need_plain
  pub optional : HavePlaces options need_options

pub room_there : (plain options need_plain need_options : TemplateMap) (now need : Tabled) → tabled plain options ≡ now → tabled need_plain need_options ≡ need → HasPlaces now.places need.places → HasMaps plain options need_plain need_options
room_there plain options need_plain need_options now need now_is need_is room =
    let there : HasPlaces (tabled plain options).places (tabled need_plain need_options).places =
    subst (λ (t : Tabled). HasPlaces (tabled plain options).places t.places) (sym need_is) (subst (λ (t : Tabled). HasPlaces t.places need.places) (sym now_is) room) in
    record { plains = places_there need_plain plain there.plain; optional = places_there need_options options there.options }

-- ---- a template less, or one more

pub fewer : (p o : Bool) (plain options : Option Template) → IsOneOfKind plain options → IsOneOfKind (cond p None plain) (cond o None options)
fewer true true plain options one = tt
fewer false false plain options one = one
fewer true false None options one = one
fewer true false (Some t) None one = tt
fewer true false (Some t) (Some u) one = absurd one
fewer false true plain None one = one
fewer false true None (Some u) one = tt
fewer false true (Some t) (Some u) one = absurd one

pub or-removed : (here : Bool) (plain options : Option Template) → option_or (cond here None plain) (cond here None options) ≡ cond here None (option_or plain options)
or-removed true plain options = refl
or-removed false plain options = refl

pub one_plain : (here : Bool) (t : Template) (plain options : Option Template) → IsOfKind false t → IsOneOfKind plain options → IsOneOfKind (cond here (Some t) plain) (cond here None options)
one_plain true t plain options kind one = kind
one_plain false t plain options kind one = one

pub one_options : (here : Bool) (t : Template) (plain options : Option Template) → IsOfKind true t → IsOneOfKind plain options → IsOneOfKind (cond here None plain) (cond here (Some t) options)
one_options true t plain options kind one = kind
one_options false t plain options kind one = one

pub or-one_plain : (here : Bool) (t : Template) (plain options : Option Template) → option_or (cond here (Some t) plain) (cond here None options) ≡ cond here (Some t) (option_or plain options)
or-one_plain true t plain options = refl
or-one_plain false t plain options = refl

pub or-one_options : (here : Bool) (t : Template) (plain options : Option Template) → option_or (cond here None plain) (cond here (Some t) options) ≡ cond here (Some t) (option_or plain options)
or-one_options true t plain options = refl
or-one_options false t plain options = refl

-- ---- a withdrawal of all of a kind

left_by : (kind options : Bool) (t : Template) → kind ≡ options → cond (not (same_kind options kind)) (Some t) None ≡ None
left_by true true t e = refl
left_by false false t e = refl
left_by true false t e = absurd cc
left_by false true t e = absurd cc

kept_by : (kind options : Bool) (t : Template) → kind ≡ not options → Some t ≡ cond (not (same_kind options kind)) (Some t) None
kept_by true false t e = refl
kept_by false true t e = refl
kept_by true true t e = absurd cc
kept_by false false t e = absurd cc

pub left-options : (plain options : Option Template) → IsOneOfKind plain options → option_or None options ≡ unless_of_kind false (option_or plain options)
left-options None None one = refl
left-options (Some t) None one = sym (left_by (is_options t) false t one.kind)
left-options None (Some t) one = kept_by (is_options t) false t one.kind
left-options (Some t) (Some u) one = absurd one

pub left-plain : (plain options : Option Template) → IsOneOfKind plain options → option_or plain None ≡ unless_of_kind true (option_or plain options)
left-plain None None one = refl
left-plain (Some t) None one = kept_by (is_options t) true t one.kind
left-plain None (Some t) one = sym (left_by (is_options t) true t one.kind)
left-plain (Some t) (Some u) one = absurd one

-- ---- what a message decides is taken over

same_both : (b : Bool) (x : Option Template) → cond b x x ≡ x
same_both true x = refl
same_both false x = refl

after_decided : (x : Option Template) (p o : Bool) (before : Option Template) → x ≡ template_after x true p o before
after_decided None p o before = refl
after_decided (Some t) p o before = refl

kind_plain : (k p o : Bool) (t : Template) → k ≡ false → option_or (cond p None (Some t)) (cond o None None) ≡ cond (cond k o p) None (Some t)
kind_plain true p o t is = absurd cc
kind_plain false true o t is = same_both o None
kind_plain false false o t is = refl

kind_options : (k p o : Bool) (t : Template) → k ≡ true → option_or (cond p None None) (cond o None (Some t)) ≡ cond (cond k o p) None (Some t)
kind_options false p o t is = absurd cc
kind_options true true o t is = refl
kind_options true false o t is = refl

left_value : (p o : Bool) (plain options : Option Template) → IsOneOfKind plain options → option_or (cond p None plain) (cond o None options) ≡ unless_withdrawn p o (option_or plain options)
left_value true o None None one = same_both o None
left_value false o None None one = same_both o None
left_value p o (Some t) None one = kind_plain (is_options t) p o t one.kind
left_value p o None (Some t) one = kind_options (is_options t) p o t one.kind
left_value p o (Some t) (Some u) one = absurd one

pub taken-value : (d p o : Bool) (new_plain new_options plain options : Option Template) → (d ≡ false → option_or new_plain new_options ≡ None) → IsOneOfKind plain options
    → option_or (cond p new_plain (cond d new_plain plain)) (cond o new_options (cond d new_options options)) ≡ template_after (option_or new_plain new_options) d p o (option_or plain options)
taken-value true p o x y plain options none one = (λ i. option_or (same_both p x i) (same_both o y i)) ∙ after_decided (option_or x y) p o (option_or plain options)
taken-value false p o None None plain options none one = left_value p o plain options one
taken-value false p o (Some t) y plain options none one = absurd (let e = none refl in cc)
taken-value false p o None (Some t) plain options none one = absurd (let e = none refl in cc)

pub taken_kinds : (d p o : Bool) (new_plain new_options plain options : Option Template) → (d ≡ false → option_or new_plain new_options ≡ None) → IsOneOfKind new_plain new_options → IsOneOfKind plain options
    → IsOneOfKind (cond p new_plain (cond d new_plain plain)) (cond o new_options (cond d new_options options))
taken_kinds true true true x y plain options none new one = new
taken_kinds true true false x y plain options none new one = new
taken_kinds true false true x y plain options none new one = new
taken_kinds true false false x y plain options none new one = new
taken_kinds false p o None None plain options none new one = fewer p o plain options one
taken_kinds false p o (Some t) y plain options none new one = absurd (let e = none refl in cc)
taken_kinds false p o None (Some t) plain options none new one = absurd (let e = none refl in cc)
