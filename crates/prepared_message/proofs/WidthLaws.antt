-- How many values the Data Sets of a message may have.
use Rattle.std.proofs.Common.{◌≡◌, ℕ, ◌+◌, ◌-◌, ◌*◌, ◌<◌, ◌≤◌, ◌==◌, ◌^◌, min, Bool, true, false, cond, List, [], ◌∷◌, length, drop, get_or, Option, Some, Result, Ok, refl, sym, ap, ◌∙◌, subst, subst₂, arith}
use Rattle.std.specs.Prelude.{◌↔◌, IsTrue}
use Rattle.std.specs.Option.{option_or}
use Rattle.std.proofs.lemmas.List.{drop_all}
use Rattle.sequences.proofs.ListLaws.{drop_read}
use Rattle.ipfix_template.specs.declared.template.Template.{Template}
use Rattle.ipfix_message.specs.declared.item.Item.{Item}
use Rattle.ipfix_message.specs.declared.item.Item.TheVariants.{Define, Withdraw, WithdrawAll, Refused, DataSet, Skipped}
use Rattle.ipfix_message.specs.declared.fault.Fault.{Fault as DecodeError}
use Rattle.ipfix_message.specs.declared.header.Header.{Header}
use Rattle.ipfix_message.specs.Reading.{header_of, items_of}
use Rattle.prepared_message.specs.declared.width.Width.{Width}
use Rattle.prepared_message.specs.declared.width.TheConstants.{VALUES_AN_OCTET}
use Rattle.prepared_message.specs.Widths.{width_of, set_values, values_by_widths, with_width, given_or, widths_in, IsTooWide}

-- templates that are the same ID by ID have the same values
values_same : (f g : ℕ → Option Width) → ((id : ℕ) → f id ≡ g id) → (said : List Item) → values_by_widths f said ≡ values_by_widths g said
unfolding values_by_widths
values_same f g same [] = refl
values_same f g same (Define id t ∷ said) = values_same (with_width id (width_of t) f) (with_width id (width_of t) g) (λ other. ap (λ w. cond (other == id) (Some (width_of t)) w) (same other)) said
values_same f g same (DataSet id start octets ∷ said) =
    ap (λ w. set_values w octets + values_by_widths f said) (same id) ∙ ap (λ n. set_values (g id) octets + n) (values_same f g same said)
values_same f g same (Withdraw id ∷ said) = values_same f g same said
values_same f g same (WithdrawAll options ∷ said) = values_same f g same said
values_same f g same (Refused id why ∷ said) = values_same f g same said
values_same f g same (Skipped set ∷ said) = values_same f g same said

-- what a message gives stands before what is known
or_given : (b : Bool) (x y : Option Width) (w : Width) → option_or (cond b (Some w) x) y ≡ cond b (Some w) (option_or x y)
or_given true x y w = refl
or_given false x y w = refl

defines : (old new known : ℕ → Option Width) (id : ℕ) (t : Template) → ((other : ℕ) → new other ≡ cond (other == id) (Some (width_of t)) (old other)) → (said : List Item)
    → values_by_widths (given_or new known) said ≡ values_by_widths (given_or old known) (Define id t ∷ said)
unfolding values_by_widths
defines old new known id t is said =
    values_same (given_or new known) (with_width id (width_of t) (given_or old known)) (λ other. ap (λ x. option_or x (known other)) (is other) ∙ or_given (other == id) (old other) (known other) (width_of t)) said

brings : (f : ℕ → Option Width) (id start octets : ℕ) (said : List Item) → values_by_widths f (DataSet id start octets ∷ said) ≡ set_values (f id) octets + values_by_widths f said
unfolding values_by_widths
brings f id start octets said = refl

tells_nothing : (f : ℕ → Option Width) (item : Item) (said : List Item) → ((id : ℕ) (t : Template) → item ≡ Define id t → ⊥) → ((id start octets : ℕ) → item ≡ DataSet id start octets → ⊥) → values_by_widths f said ≡ values_by_widths f (item ∷ said)
unfolding values_by_widths
tells_nothing f (Define id t) said defines_not brings_not = absurd (defines_not id t refl)
tells_nothing f (DataSet id start octets) said defines_not brings_not = absurd (brings_not id start octets refl)
tells_nothing f (Withdraw id) said defines_not brings_not = refl
tells_nothing f (WithdrawAll options) said defines_not brings_not = refl
tells_nothing f (Refused id why) said defines_not brings_not = refl
tells_nothing f (Skipped set) said defines_not brings_not = refl

nothing_left : (f : ℕ → Option Width) → values_by_widths f [] ≡ 0
unfolding values_by_widths
nothing_left f = refl

-- ---- the items are gone through one by one

-- of the items from a place on, and of all items: the bound is what is left and what was counted
abbrev pub AreCounted : ℕ → (ℕ → Option Width) → List Item → ℕ → ℕ → ℕ → Type 0
AreCounted most f said place all left = values_by_widths f (drop place said) + most ≡ all + left

pub counts_given : (most : ℕ) (old new known : ℕ → Option Width) (said : List Item) (place all left : ℕ) (item : Item) (id : ℕ) (t : Template)
    → place < length said → item ≡ get_or said place item → item ≡ Define id t → ((other : ℕ) → new other ≡ cond (other == id) (Some (width_of t)) (old other))
    → AreCounted most (given_or old known) said place all left → AreCounted most (given_or new known) said (place + 1) all left
counts_given most old new known said place all left item id t low at is makes counted =
    ap (λ n. n + most) (defines old new known id t makes (drop (place + 1) said) ∙ ap (λ x. values_by_widths (given_or old known) (x ∷ drop (place + 1) said)) (sym is) ∙ ap (values_by_widths (given_or old known)) (sym (drop_read said place item low at))) ∙ counted

pub counts_other : (most : ℕ) (f : ℕ → Option Width) (said : List Item) (place all left : ℕ) (item : Item)
    → place < length said → item ≡ get_or said place item → ((id : ℕ) (t : Template) → item ≡ Define id t → ⊥) → ((id start octets : ℕ) → item ≡ DataSet id start octets → ⊥)
    → AreCounted most f said place all left → AreCounted most f said (place + 1) all left
counts_other most f said place all left item low at defines_not brings_not counted =
    ap (λ n. n + most) (tells_nothing f item (drop (place + 1) said) defines_not brings_not ∙ ap (values_by_widths f) (sym (drop_read said place item low at))) ∙ counted

at_set : (f : ℕ → Option Width) (said : List Item) (place : ℕ) (item : Item) (id start octets : ℕ) → place < length said → item ≡ get_or said place item → item ≡ DataSet id start octets
    → values_by_widths f (drop place said) ≡ set_values (f id) octets + values_by_widths f (drop (place + 1) said)
at_set f said place item id start octets low at is =
    ap (values_by_widths f) (drop_read said place item low at) ∙ ap (λ x. values_by_widths f (x ∷ drop (place + 1) said)) is ∙ brings f id start octets (drop (place + 1) said)

pub counts_set : (most : ℕ) (f : ℕ → Option Width) (said : List Item) (place all left values : ℕ) (item : Item) (id start octets : ℕ)
    → place < length said → item ≡ get_or said place item → item ≡ DataSet id start octets → values ≡ min (2 ^ 64 - 1) (set_values (f id) octets) → values ≤ left → left ≤ most → most < 2 ^ 64 - 1
    → AreCounted most f said place all left → AreCounted most f said (place + 1) all (left - values)
counts_set most f said place all left values item id start octets low at is has within few small counted =
    omega (arith, at_set f said place item id start octets low at is, has, within, few, small, counted)

pub counts_too_many : (most : ℕ) (f : ℕ → Option Width) (said : List Item) (place all left values : ℕ) (item : Item) (id start octets : ℕ)
    → place < length said → item ≡ get_or said place item → item ≡ DataSet id start octets → values ≡ min (2 ^ 64 - 1) (set_values (f id) octets) → left < values
    → AreCounted most f said place all left → most < all
counts_too_many most f said place all left values item id start octets low at is has above counted =
    omega (arith, at_set f said place item id start octets low at is, has, above, counted)

pub counts_all : (most : ℕ) (f : ℕ → Option Width) (said : List Item) (place all left : ℕ) → length said ≤ place → AreCounted most f said place all left → all ≤ most
counts_all most f said place all left past counted =
    omega (arith, ap (values_by_widths f) (drop_all place said past) ∙ nothing_left f, counted)

-- ---- a whole message

same_said : (said others : List Item) (r : Result (List Item) DecodeError) → r ≡ Ok said → r ≡ Ok others → said ≡ others
same_said said others r is are = cc

pub too_wide : (known : List (ℕ × List (ℕ × Template))) (message : List ℕ) (header : Header) (said : List Item) (wide : Bool) → header ≡ header_of message → items_of message ≡ Ok said
    → IsTrue wide ↔ (length message * VALUES_AN_OCTET < values_by_widths (widths_in header.domain known) said) → IsTrue wide ↔ IsTooWide known message
too_wide known message header said wide headed items counted = (
  λ is. record { said = said; items = items; many = subst (λ (h : Header). length message * VALUES_AN_OCTET < values_by_widths (widths_in h.domain known) said) headed (counted.0 is) },
  λ (is : IsTooWide known message). counted.1 (subst₂ (λ (h : Header) (read : List Item). length message * VALUES_AN_OCTET < values_by_widths (widths_in h.domain known) read) (sym headed) (same_said is.said said (items_of message) is.items items) is.many),
)
