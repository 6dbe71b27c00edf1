-- A whole address: what is read is written so, what is written so is read, and no text is of both families.
use Rattle.std.proofs.Common.{◌≡◌, inl, inr, ℕ, zero, suc, ◌+◌, ◌-◌, ◌^◌, ◌<◌, false, eqb, ltb, List, [], ◌∷◌, ◌++◌, length, replicate, Option, Some, None, refl, sym, ap, ◌∙◌, subst, arith, ⊎_elim, length-append}
use Rattle.std.specs.List.{AllZip, join_with_byte}
use Rattle.std.specs.Char.{digit_value}
use Rattle.std.specs.Int.Digits.{number_from_digits, AllBelowBase}
use Rattle.std.proofs.lemmas.Int.Digits.{number_lt, digits_value-lt}
use Rattle.std.proofs.lemmas.List.{length-replicate}
use Rattle.std.proofs.lemmas.Option.{cond_some, same_Some}
use Rattle.std.proofs.lemmas.Bool.{lt-ltb, ltb-true, eq-eqb, eqb-true}
use Rattle.sequences.specs.Options.{◌>>=◌}
use Rattle.sequences.proofs.OptionLaws.{bind_some}
use Rattle.sequences.proofs.ListLaws.{Lacks, AllByRecursion-append}
use Rattle.flow_prefix.specs.declared.family.Family.{Family}
use Rattle.flow_prefix.specs.declared.family.Family.TheVariants.{Ipv4, Ipv6}
use Rattle.flow_prefix.specs.Family.{places, base, separator, width}
use Rattle.flow_prefix.specs.Text.{IsPart, AreParts, AreShortened, WritesParts, IsAddress}
use Rattle.flow_prefix.specs.Reading.{parts_of, groups_of, at_double, with_zeros, whole, long_or_short, all_parts_of, address_of}
use Rattle.flow_prefix.proofs.ScanLaws.{at_double-text}
use Rattle.flow_prefix.proofs.PowerLaws.{power_up}
use Rattle.flow_prefix.proofs.AddressLaws.{whole_power}
use Rattle.flow_prefix.proofs.AddressTextLaws.{parts_of-found, parts_of-only, groups_of-found, groups_of-only, part_digits, Lacks-digits, Lacks-middle}
use Rattle.flow_prefix.proofs.DoubleLaws.{at_double-groups, at_double-sides}

-- the parts of a whole address
pub record IsWhole (family : Family) (text parts : List ℕ) : Type 0 where
  pub written : WritesParts family text parts
  pub all : length parts ≡ places family

whole-found : (family : Family) (parts all : List ℕ) → whole family parts ≡ Some all → (length parts ≡ places family) × (parts ≡ all)
whole-found family parts all e =
    let chosen = cond_some (eqb (length parts) (places family)) parts all e in
    (eqb-true (length parts) (places family) chosen.0, chosen.1)

long-found : (family : Family) (text parts : List ℕ) → (parts_of family text >>= whole family) ≡ Some parts → AreParts family text parts × (length parts ≡ places family)
long-found family text parts e =
    let read = bind_some (parts_of family text) (whole family) parts e in
    let chosen = whole-found family read.0 parts read.2 in
    let P : List ℕ → Type 0 = λ ps. AreParts family text ps × (length ps ≡ places family) in
    subst P chosen.1 (parts_of-found family text read.0 read.1, chosen.0)

short-found : (text before after parts : List ℕ) → at_double text ≡ Some (before, after) → (groups_of before >>= λ left. groups_of after >>= λ right. with_zeros left right) ≡ Some parts → IsWhole Ipv6 text parts
short-found text before after parts place e =
    let l = bind_some (groups_of before) (λ left. groups_of after >>= λ right. with_zeros left right) parts e in
    let r = bind_some (groups_of after) (λ right. with_zeros l.0 right) parts l.2 in
    let zeros = 8 - (length l.0 + length r.0) in
    let chosen = cond_some (ltb (length l.0 + length r.0) 8) (l.0 ++ replicate zeros 0 ++ r.0) parts r.2 in
    let room = ltb-true (length l.0 + length r.0) 8 chosen.0 in
    let all : length (l.0 ++ replicate zeros 0 ++ r.0) ≡ 8 = omega (arith, length-append (l.0 ++ replicate zeros 0) r.0, length-append l.0 (replicate zeros 0), length-replicate {A = ℕ} zeros 0) in
    record {
      written = inr (record {
        before = before;
        after = after;
        left = l.0;
        right = r.0;
        zeros = zeros;
        some = omega arith;
        before_is = groups_of-found before l.0 l.1;
        after_is = groups_of-found after r.0 r.1;
        text_is = at_double-text text before after place;
        groups_are = sym chosen.1;
      });
      all = ap length (sym chosen.1) ∙ all;
    }

by_sides : (text parts : List ℕ) (sides : Option (List ℕ × List ℕ)) → at_double text ≡ sides → long_or_short text sides ≡ Some parts → IsWhole Ipv6 text parts
by_sides text parts None place e = let h = long-found Ipv6 text parts e in record { written = inl h.0; all = h.1 }
by_sides text parts (Some sides) place e = short-found text sides.0 sides.1 parts place e

pub all_parts_of-found : (family : Family) (text parts : List ℕ) → all_parts_of family text ≡ Some parts → IsWhole family text parts
unfolding all_parts_of
all_parts_of-found Ipv4 text parts e = let h = long-found Ipv4 text parts e in record { written = h.0; all = h.1 }
all_parts_of-found Ipv6 text parts e = by_sides text parts (at_double text) refl e

pub address_of-found : (family : Family) (text : List ℕ) (n : ℕ) → address_of family text ≡ Some n → IsAddress family text n
unfolding address_of
address_of-found family text n e =
    let read = bind_some (all_parts_of family text) (λ parts. Some (number_from_digits (base family) parts)) n e in
    let h = all_parts_of-found family text read.0 read.1 in
    record { parts = read.0; written = h.written; all = h.all; value = sym (same_Some (number_from_digits (base family) read.0) n read.2) }

long-only : (family : Family) (text parts : List ℕ) → 0 < places family → AreParts family text parts → length parts ≡ places family → (parts_of family text >>= whole family) ≡ Some parts
long-only family text [] some h all = absurd (omega arith)
long-only family text (n ∷ ns) some h all =
    rw (parts_of-only family text n ns h) (rw (eq-eqb (length (n ∷ ns)) (places family) all) refl)

short-only : (text parts : List ℕ) → AreShortened text parts → length parts ≡ 8 → long_or_short text (at_double text) ≡ Some parts
short-only text parts h all =
    let place : at_double text ≡ Some (h.before, h.after) = ap at_double h.text_is ∙ at_double-sides h.before h.after h.left h.before_is in
    let lengths : length h.left + h.zeros + length h.right ≡ 8 = omega (arith, ap length h.groups_are, length-append (h.left ++ replicate h.zeros 0) h.right, length-append h.left (replicate h.zeros 0), length-replicate {A = ℕ} h.zeros 0) in
    let some = h.some in
    let zeros : 8 - (length h.left + length h.right) ≡ h.zeros = omega arith in
    rw place (rw (groups_of-only h.before h.left h.before_is, groups_of-only h.after h.right h.after_is, lt-ltb (length h.left + length h.right) 8 (omega arith), zeros) (ap (λ (ps : List ℕ). Some ps) (sym h.groups_are)))

pub all_parts_of-only : (family : Family) (text parts : List ℕ) → WritesParts family text parts → length parts ≡ places family → all_parts_of family text ≡ Some parts
unfolding all_parts_of
all_parts_of-only Ipv4 text parts h all = long-only Ipv4 text parts (omega arith) h all
all_parts_of-only Ipv6 text parts h all =
    ⊎_elim (λ (groups : AreParts Ipv6 text parts). rw (at_double-groups text parts groups) (long-only Ipv6 text parts (omega arith) groups all))
    (λ (short : AreShortened text parts). short-only text parts short all)
    h

pub address_of-only : (family : Family) (text : List ℕ) (n : ℕ) → IsAddress family text n → address_of family text ≡ Some n
unfolding address_of
address_of-only family text n h = rw (all_parts_of-only family text h.parts h.written h.all) (ap (λ (m : ℕ). Some m) (sym h.value))

-- an address has digits and separators alone
joined_lacks : (family : Family) (byte : ℕ) → digit_value byte ≡ 36 → eqb (separator family) byte ≡ false → (words : List (List ℕ)) (parts : List ℕ) → AllZip (IsPart family) words parts → Lacks byte (join_with_byte (separator family) words)
joined_lacks family byte other apart [] parts h = tt
joined_lacks family byte other apart (word ∷ words) [] h = absurd h
joined_lacks family byte other apart (word ∷ []) (n ∷ ns) h = Lacks-digits byte other word (part_digits family word n h.0).1
joined_lacks family byte other apart (word ∷ next ∷ words) (n ∷ ns) h =
    AllByRecursion-append (λ c. eqb c byte ≡ false) word (separator family ∷ join_with_byte (separator family) (next ∷ words)) (Lacks-digits byte other word (part_digits family word n h.0).1) (apart, joined_lacks family byte other apart (next ∷ words) ns h.1)

parts_lack : (family : Family) (byte : ℕ) → digit_value byte ≡ 36 → eqb (separator family) byte ≡ false → (text parts : List ℕ) → AreParts family text parts → Lacks byte text
parts_lack family byte other apart text parts h =
    let P : List ℕ → Type 0 = λ t. Lacks byte t in
    subst P (sym h.joined) (joined_lacks family byte other apart h.words parts h.each)

shortened_lacks : (byte : ℕ) → digit_value byte ≡ 36 → eqb 58 byte ≡ false → (text parts : List ℕ) → AreShortened text parts → Lacks byte text
shortened_lacks byte other apart text parts h =
    let P : List ℕ → Type 0 = λ t. Lacks byte t in
    subst P (sym h.text_is) (AllByRecursion-append (λ c. eqb c byte ≡ false) h.before (58 ∷ 58 ∷ h.after) (parts_lack Ipv6 byte other apart h.before h.left h.before_is) (apart, (apart, parts_lack Ipv6 byte other apart h.after h.right h.after_is)))

pub written_lacks : (family : Family) (byte : ℕ) → digit_value byte ≡ 36 → eqb (separator family) byte ≡ false → (text parts : List ℕ) → WritesParts family text parts → Lacks byte text
written_lacks Ipv4 byte other apart text parts h = parts_lack Ipv4 byte other apart text parts h
written_lacks Ipv6 byte other apart text parts h =
    ⊎_elim (λ (groups : AreParts Ipv6 text parts). parts_lack Ipv6 byte other apart text parts groups)
    (λ (short : AreShortened text parts). shortened_lacks byte other apart text parts short)
    h

slash_apart : (family : Family) → eqb (separator family) 47 ≡ false
slash_apart Ipv4 = refl
slash_apart Ipv6 = refl

pub address_no_slash : (family : Family) (text : List ℕ) (n : ℕ) → IsAddress family text n → Lacks 47 text
address_no_slash family text n h = written_lacks family 47 refl (slash_apart family) text h.parts h.written

address6_no_dot : (text : List ℕ) (n : ℕ) → IsAddress Ipv6 text n → Lacks 46 text
address6_no_dot text n h = written_lacks Ipv6 46 refl refl text h.parts h.written

two_words : (words : List (List ℕ)) (parts : List ℕ) → AllZip (IsPart Ipv4) words parts → length parts ≡ 4 → Lacks 46 (join_with_byte 46 words) → ⊥
two_words [] [] h all lacks = absurd (omega arith)
two_words [] (n ∷ ns) h all lacks = h
two_words (word ∷ words) [] h all lacks = h
two_words (word ∷ []) (n ∷ []) h all lacks = absurd (omega arith)
two_words (word ∷ []) (n ∷ m ∷ ns) h all lacks = h.1
two_words (word ∷ next ∷ words) (n ∷ ns) h all lacks = Lacks-middle 46 word (join_with_byte 46 (next ∷ words)) lacks

pub address4_has_dot : (text : List ℕ) (n : ℕ) → IsAddress Ipv4 text n → Lacks 46 text → ⊥
address4_has_dot text n h lacks =
    let P : List ℕ → Type 0 = λ t. Lacks 46 t in
    two_words h.written.words h.parts h.written.each h.all (subst P h.written.joined lacks)

not_some : (text : List ℕ) (n : ℕ) (o : Option ℕ) → IsAddress Ipv6 text n → address_of Ipv4 text ≡ o → o ≡ None
not_some text n None h e = refl
not_some text n (Some m) h e = absurd (address4_has_dot text m (address_of-found Ipv4 text m e) (address6_no_dot text n h))

-- what is an IPv6 address is no IPv4 address
pub address_of-other : (text : List ℕ) (n : ℕ) → IsAddress Ipv6 text n → address_of Ipv4 text ≡ None
address_of-other text n h = not_some text n (address_of Ipv4 text) h refl

-- an address fits its width
part_below : (family : Family) (word : List ℕ) (n : ℕ) → IsPart family word n → n < base family
part_below Ipv4 word n h = h.0
part_below Ipv6 word n h =
    let value = h.2 in
    let below = digits_value-lt 16 word h.0.1 in
    let up = power_up 16 (omega arith) (length word) 4 h.1 in
    omega (arith, value, below, up)

each_below : (family : Family) (words : List (List ℕ)) (parts : List ℕ) → AllZip (IsPart family) words parts → AllBelowBase (base family) parts
each_below family [] [] h = tt
each_below family [] (n ∷ ns) h = absurd h
each_below family (word ∷ words) [] h = tt
each_below family (word ∷ words) (n ∷ ns) h = (part_below family word n h.0, each_below family words ns h.1)

below_zeros : (b zeros : ℕ) → 0 < b → AllBelowBase b (replicate zeros 0)
below_zeros b zero positive = tt
below_zeros b (suc zeros) positive = (positive, below_zeros b zeros positive)

written_below : (family : Family) (text parts : List ℕ) → WritesParts family text parts → AllBelowBase (base family) parts
written_below Ipv4 text parts h = each_below Ipv4 h.words parts h.each
written_below Ipv6 text parts h =
    ⊎_elim (λ (groups : AreParts Ipv6 text parts). each_below Ipv6 groups.words parts groups.each)
    (λ (short : AreShortened text parts).
    let P : List ℕ → Type 0 = λ ps. AllBelowBase 65536 ps in
    subst P (sym short.groups_are) (AllByRecursion-append (λ d. d < 65536) (short.left ++ replicate short.zeros 0) short.right (AllByRecursion-append (λ d. d < 65536) short.left (replicate short.zeros 0) (each_below Ipv6 short.before_is.words short.left short.before_is.each) (below_zeros 65536 short.zeros (omega arith))) (each_below Ipv6 short.after_is.words short.right short.after_is.each)))
    h

pub address_below : (family : Family) (text : List ℕ) (n : ℕ) → IsAddress family text n → n < 2 ^ width family
address_below family text n h =
    let below = number_lt (base family) h.parts (written_below family text h.parts h.written) in
    let P : ℕ → Type 0 = λ power. number_from_digits (base family) h.parts < power in
    let bound = subst P (ap (λ k. base family ^ k) h.all ∙ whole_power family) below in
    let value = h.value in
    omega (arith, value, bound)
