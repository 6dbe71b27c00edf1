-- A prefix that is read is written so, one that is written so is read, and which fault stands.
use Rattle.std.proofs.Common.{◌≡◌, ◌≢◌, ◌⊎◌, ◌↔◌, inl, inr, ℕ, ◌<◌, ◌≤◌, List, ◌∷◌, ◌++◌, Option, Some, None, Result, Ok, Err, IfOk, refl, sym, ap, ◌∙◌, subst, arith, ⊎_elim}
use Rattle.std.specs.Fmt.{decimal}
use Rattle.std.proofs.lemmas.Bool.{lt-ltb, le-ltb, eq-eqb, ne_eqb, cases_lt, cases_eq}
use Rattle.sequences.proofs.ResultLaws.{Err-Ok}
use Rattle.flow_prefix.specs.declared.family.Family.{Family}
use Rattle.flow_prefix.specs.declared.family.Family.TheVariants.{Ipv4, Ipv6}
use Rattle.flow_prefix.specs.declared.fault.Fault.{Fault}
use Rattle.flow_prefix.specs.declared.fault.Fault.TheVariants.{BadText, BadLength, HostBits}
use Rattle.flow_prefix.specs.declared.prefix.Prefix.{Prefix}
use Rattle.flow_prefix.specs.declared.prefix.Prefix.TheVariants.{V4, V6}
use Rattle.flow_prefix.specs.Family.{width}
use Rattle.flow_prefix.specs.Bits.{truncated}
use Rattle.numerals.specs.Numerals.{number_of}
use Rattle.flow_prefix.specs.Text.{IsAddress, IsPrefixForm, IsPrefixText, HasNoForm, HasLongLength, HasHostBits}
use Rattle.flow_prefix.specs.Reading.{cut_at, address_of, prefix_in, checked_prefix, by_family, with_bits, of_sides, prefix_of}
use Rattle.numerals.proofs.NumeralLaws.{number_of-found, number_of-only}
use Rattle.flow_prefix.proofs.AddressReadLaws.{address_of-found, address_of-only, address_of-other, address_no_slash, address_below}
use Rattle.flow_prefix.proofs.CutLaws.{cut_at-middle, cut_at-text}

-- of the form, and judged
pub record IsJudged (text : List ℕ) (r : Result Prefix Fault) : Type 0 where
  pub family : Family
  pub address : ℕ
  pub bits : ℕ
  pub form : IsPrefixForm text family address bits
  pub judgement : r ≡ checked_prefix family address bits

abbrev Outcome : List ℕ → Result Prefix Fault → Type 0
Outcome text r = (r ≡ Err BadText) ⊎ IsJudged text r

outcome_by_family : (text front : List ℕ) (bits : ℕ) → bits < 1000 → text ≡ front ++ 47 ∷ decimal bits → (v4 v6 : Option ℕ) → address_of Ipv4 front ≡ v4 → address_of Ipv6 front ≡ v6 → Outcome text (by_family v4 v6 bits)
outcome_by_family text front bits short e (Some n) v6 a b =
    inr (record { family = Ipv4; address = n; bits = bits; form = record { front = front; is_address = address_of-found Ipv4 front n a; three_digits = short; text_is = e }; judgement = refl })
outcome_by_family text front bits short e None (Some n) a b =
    inr (record { family = Ipv6; address = n; bits = bits; form = record { front = front; is_address = address_of-found Ipv6 front n b; three_digits = short; text_is = e }; judgement = refl })
outcome_by_family text front bits short e None None a b = inl refl

outcome_with_bits : (text front back : List ℕ) → text ≡ front ++ 47 ∷ back → (bits : Option ℕ) → number_of 999 back ≡ bits → Outcome text (with_bits front bits)
outcome_with_bits text front back e None number = inl refl
outcome_with_bits text front back e (Some bits) number =
    let read = number_of-found 999 back bits (omega arith) number in
    let bound = read.bound in
    outcome_by_family text front bits (omega arith) (e ∙ ap (λ t. front ++ 47 ∷ t) read.text) (address_of Ipv4 front) (address_of Ipv6 front) refl refl

outcome_of_sides : (text : List ℕ) (sides : Option (List ℕ × List ℕ)) → cut_at 47 text ≡ sides → Outcome text (of_sides sides)
outcome_of_sides text None e = inl refl
outcome_of_sides text (Some sides) e = outcome_with_bits text sides.0 sides.1 (cut_at-text 47 text sides.0 sides.1 e) (number_of 999 sides.1) refl

-- no text but one of the form is judged
pub prefix_of-outcome : (text : List ℕ) → (prefix_of text ≡ Err BadText) ⊎ IsJudged text (prefix_of text)
unfolding prefix_of
prefix_of-outcome text = outcome_of_sides text (cut_at 47 text) refl

read_family : (family : Family) (front : List ℕ) (address bits : ℕ) → IsAddress family front address → by_family (address_of Ipv4 front) (address_of Ipv6 front) bits ≡ checked_prefix family address bits
read_family Ipv4 front address bits h = rw (address_of-only Ipv4 front address h) refl
read_family Ipv6 front address bits h = rw (address_of-other front address h, address_of-only Ipv6 front address h) refl

-- each text of the form is judged
pub prefix_of-judged : (text : List ℕ) (family : Family) (address bits : ℕ) → IsPrefixForm text family address bits → prefix_of text ≡ checked_prefix family address bits
unfolding prefix_of
prefix_of-judged text family address bits h =
    let short = h.three_digits in
    let place : cut_at 47 text ≡ Some (h.front, decimal bits) = ap (cut_at 47) h.text_is ∙ cut_at-middle 47 h.front (decimal bits) (address_no_slash family h.front address h.is_address) in
    let number = number_of-only 999 (decimal bits) bits (omega arith) (record { bound = omega arith; text = refl }) in
    ap of_sides place ∙ ap (with_bits h.front) number ∙ read_family family h.front address bits h.is_address

pub judged-long : (family : Family) (address bits : ℕ) → width family < bits → checked_prefix family address bits ≡ Err BadLength
unfolding checked_prefix
judged-long family address bits h = rw (lt-ltb (width family) bits h) refl

pub judged-host : (family : Family) (address bits : ℕ) → bits ≤ width family → (truncated (width family) bits address ≡ address → ⊥) → checked_prefix family address bits ≡ Err HostBits
unfolding checked_prefix
judged-host family address bits h other = rw (le-ltb (width family) bits h, ne_eqb (truncated (width family) bits address) address other) refl

pub judged-net : (family : Family) (address bits : ℕ) → bits ≤ width family → truncated (width family) bits address ≡ address → checked_prefix family address bits ≡ Ok (prefix_in family (record { address = address; length = bits }))
unfolding checked_prefix
judged-net family address bits h same = rw (le-ltb (width family) bits h, eq-eqb (truncated (width family) bits address) address same) refl

-- the three judgements
pub data Judgement (family : Family) (address bits : ℕ) : Type 0 where
  Long : width family < bits → Judgement family address bits
  Host : bits ≤ width family → (truncated (width family) bits address ≡ address → ⊥) → Judgement family address bits
  Good : bits ≤ width family → truncated (width family) bits address ≡ address → Judgement family address bits

pub judgement_of : (family : Family) (address bits : ℕ) → Judgement family address bits
judgement_of family address bits =
    ⊎_elim (λ (long : width family < bits). Long long)
    (λ (within : bits ≤ width family).
    ⊎_elim (λ (same : truncated (width family) bits address ≡ address). Good within same)
    (λ (other : truncated (width family) bits address ≡ address → ⊥). Host within other)
    (cases_eq (truncated (width family) bits address) address))
    (cases_lt (width family) bits)

text_in : (text : List ℕ) (family : Family) (address bits : ℕ) → IsPrefixForm text family address bits → bits ≤ width family → truncated (width family) bits address ≡ address → IsPrefixText text (prefix_in family (record { address = address; length = bits }))
text_in text Ipv4 address bits form within clear = (form, record { within = within; below = address_below Ipv4 form.front address form.is_address; clear = clear })
text_in text Ipv6 address bits form within clear = (form, record { within = within; below = address_below Ipv6 form.front address form.is_address; clear = clear })

ok_judged : (text : List ℕ) (p : Prefix) (h : IsJudged text (Ok p)) → Judgement h.family h.address h.bits → IsPrefixText text p
ok_judged text p h (Long long) = let e = h.judgement ∙ judged-long h.family h.address h.bits long in cc
ok_judged text p h (Host within other) = let e = h.judgement ∙ judged-host h.family h.address h.bits within other in cc
ok_judged text p h (Good within same) =
    let e : Ok p ≡ Ok (prefix_in h.family (record { address = h.address; length = h.bits })) = h.judgement ∙ judged-net h.family h.address h.bits within same in
    let is : p ≡ prefix_in h.family (record { address = h.address; length = h.bits }) = cc in
    let P : Prefix → Type 0 = λ q. IsPrefixText text q in
    subst P (sym is) (text_in text h.family h.address h.bits h.form within same)

found_by : (text : List ℕ) (r : Result Prefix Fault) → (r ≡ Err BadText) ⊎ IsJudged text r → IfOk r (λ p. IsPrefixText text p)
found_by text (Err e) h = tt
found_by text (Ok p) h =
    ⊎_elim (λ (bad : Ok p ≡ Err BadText). absurd (Err-Ok BadText p (sym bad)))
    (λ (judgement : IsJudged text (Ok p)). ok_judged text p judgement (judgement_of judgement.family judgement.address judgement.bits))
    h

-- what is read is written so
pub prefix_of-found : (text : List ℕ) → IfOk (prefix_of text) (λ p. IsPrefixText text p)
prefix_of-found text = found_by text (prefix_of text) (prefix_of-outcome text)

-- what is written so is read
pub prefix_of-only : (text : List ℕ) (p : Prefix) → IsPrefixText text p → prefix_of text ≡ Ok p
prefix_of-only text (V4 net) h = prefix_of-judged text Ipv4 net.address net.length h.0 ∙ judged-net Ipv4 net.address net.length h.1.within h.1.clear
prefix_of-only text (V6 net) h = prefix_of-judged text Ipv6 net.address net.length h.0 ∙ judged-net Ipv6 net.address net.length h.1.within h.1.clear

judged_text : (family : Family) (address bits : ℕ) → Judgement family address bits → checked_prefix family address bits ≡ Err BadText → ⊥
judged_text family address bits (Long long) e = let f = sym e ∙ judged-long family address bits long in cc
judged_text family address bits (Host within other) e = let f = sym e ∙ judged-host family address bits within other in cc
judged_text family address bits (Good within same) e = let f = sym e ∙ judged-net family address bits within same in cc

pub prefix_of-bad_text : (text : List ℕ) → (prefix_of text ≡ Err BadText) ↔ HasNoForm text
prefix_of-bad_text text = (
  λ e family address bits form. judged_text family address bits (judgement_of family address bits) (sym (prefix_of-judged text family address bits form) ∙ e),
  λ none. ⊎_elim (λ (bad : prefix_of text ≡ Err BadText). bad)
      (λ (judgement : IsJudged text (prefix_of text)). absurd (none judgement.family judgement.address judgement.bits judgement.form))
      (prefix_of-outcome text),
)

long_judged : (family : Family) (address bits : ℕ) → Judgement family address bits → checked_prefix family address bits ≡ Err BadLength → width family < bits
long_judged family address bits (Long long) e = long
long_judged family address bits (Host within other) e = let f = sym e ∙ judged-host family address bits within other in cc
long_judged family address bits (Good within same) e = let f = sym e ∙ judged-net family address bits within same in cc

host_judged : (family : Family) (address bits : ℕ) → Judgement family address bits → checked_prefix family address bits ≡ Err HostBits → (bits ≤ width family) × (truncated (width family) bits address ≢ address)
host_judged family address bits (Long long) e = let f = sym e ∙ judged-long family address bits long in cc
host_judged family address bits (Host within other) e = (within, other)
host_judged family address bits (Good within same) e = let f = sym e ∙ judged-net family address bits within same in cc

pub prefix_of-bad_length : (text : List ℕ) → (prefix_of text ≡ Err BadLength) ↔ HasLongLength text
prefix_of-bad_length text = (
  λ e. ⊎_elim (λ (bad : prefix_of text ≡ Err BadText). let f = sym e ∙ bad in cc)
      (λ (h : IsJudged text (prefix_of text)). (h.family, h.address, h.bits, h.form, long_judged h.family h.address h.bits (judgement_of h.family h.address h.bits) (sym h.judgement ∙ e)))
      (prefix_of-outcome text),
  λ h. prefix_of-judged text h.0 h.1 h.2 h.3 ∙ judged-long h.0 h.1 h.2 h.4,
)

pub prefix_of-host_bits : (text : List ℕ) → (prefix_of text ≡ Err HostBits) ↔ HasHostBits text
prefix_of-host_bits text = (
  λ e. ⊎_elim (λ (bad : prefix_of text ≡ Err BadText). let f = sym e ∙ bad in cc)
      (λ (h : IsJudged text (prefix_of text)).
      let judgement = host_judged h.family h.address h.bits (judgement_of h.family h.address h.bits) (sym h.judgement ∙ e) in
      (h.family, h.address, h.bits, h.form, judgement.0, judgement.1))
      (prefix_of-outcome text),
  λ h. prefix_of-judged text h.0 h.1 h.2 h.3 ∙ judged-host h.0 h.1 h.2 h.4 h.5,
)
