-- The element that a word names is the one whose name it is.
use Rattle.std.proofs.Common.{◌≡◌, ℕ, ◌^◌, ◌<◌, Bool, true, false, ◌&&◌, cond, eqb, ltb, List, [], ◌∷◌, length, Option, Some, None, IfSome, refl, sym, ap, ◌∙◌, subst, arith, ⊎_elim}
use Rattle.std.specs.List.{find, list_all, position_or_len}
use Rattle.std.specs.Str.{bytes_eq, IsUtf8}
use Rattle.std.specs.Fmt.{decimal}
use Rattle.std.specs.Str.Parse.{AllDigits}
use Rattle.std.proofs.lemmas.Str.{IsUtf8-from_ascii}
use Rattle.std.proofs.lemmas.Fmt.{decimal_is_IsNumeral}
use Rattle.std.proofs.lemmas.Slice.Eq.{bytes_eq-Decides}
use Rattle.std.proofs.lemmas.Option.{cond_some, none-some, same_Some}
use Rattle.std.proofs.lemmas.Bool.{and_parts, ltb-true, lt-ltb, le-ltb, false≢true}
use Rattle.std.proofs.lemmas.Bool.Decides.{nat_tests}
use Rattle.ipfix_element.specs.Element.{Element, IsElement}
use Rattle.ipfix_element.specs.Registry.{Registered, registry, line_of, line_for}
use Rattle.ipfix_element.specs.Lines.{IsLineName}
use Rattle.ipfix_element.specs.Names.{element_name, numbered_name, name_on, is_name_octet}
use Rattle.ipfix_element.proofs.RegistryLaws.{find_both}
use Rattle.ipfix_element.proofs.NameLaws.{named_how, one_name, one_word}
use Rattle.numerals.specs.Numerals.{number_of}
use Rattle.flow_prefix.specs.Reading.{cut_at}
use Rattle.numerals.proofs.NumeralLaws.{number_of-found, number_of-only}
use Rattle.flow_prefix.proofs.AddressTextLaws.{digit_other}
use Rattle.flow_prefix.proofs.CutLaws.{cut_at-middle}
use Rattle.sequences.specs.Options.{◌>>=◌}
use Rattle.sequences.proofs.OptionLaws.{bind_some}
use Rattle.sequences.proofs.ListLaws.{Lacks}
use Rattle.policy_text.proofs.NameLaws.{ascii_by}
use Rattle.policy_text.specs.Words.{Word}
use Rattle.policy_text.specs.Elements.{element_if_named, element_at, on_sides, behind_e, numbered_of, listed_or, element_of}

abbrev HasPen : Element → Type 0
HasPen e = IfSome e.pen (λ pen. pen < 2 ^ 32)

element_at-pen : (pen : Option ℕ) (word : Word) (e : Element) → IfSome pen (λ p. p < 2 ^ 32) → element_at pen word ≡ Some e → HasPen e
element_at-pen pen word e small found =
    let read = bind_some (number_of 32767 word) (λ n. Some (record { pen = pen; number = n })) e found in
    let is : record { pen = pen; number = read.0 } ≡ e = same_Some (record { pen = pen; number = read.0 }) e read.2 in
    let P : Element → Type 0 = λ x. HasPen x in
    subst P is small

on_sides-pen : (numbers : Word) (sides : Option (List ℕ × List ℕ)) (e : Element) → on_sides numbers sides ≡ Some e → HasPen e
on_sides-pen numbers None e found = element_at-pen None numbers e tt found
on_sides-pen numbers (Some sides) e found =
    let read = bind_some (number_of 4294967295 sides.0) (λ pen. element_at (Some pen) sides.1) e found in
    let bound = (number_of-found 4294967295 sides.0 read.0 (omega arith) read.1).bound in
    element_at-pen (Some read.0) sides.1 e (omega arith) read.2

behind_e-pen : (b : Bool) (numbers : Word) (e : Element) → behind_e b numbers ≡ Some e → HasPen e
behind_e-pen true numbers e found = on_sides-pen numbers (cut_at 47 numbers) e found
behind_e-pen false numbers e found = absurd (none-some e found)

numbered_of-pen : (word : Word) (e : Element) → numbered_of word ≡ Some e → HasPen e
numbered_of-pen [] e found = absurd (none-some e found)
numbered_of-pen (c ∷ numbers) e found = behind_e-pen (bytes_eq (c ∷ []) (101 ∷ [])) numbers e found

listed_or-pen : (o : Option Registered) (word : Word) (e : Element) → listed_or o word ≡ Some e → HasPen e
listed_or-pen (Some line) word e found =
    let is : record { pen = None; number = line.number } ≡ e = same_Some (record { pen = None; number = line.number }) e found in
    let P : Element → Type 0 = λ x. HasPen x in
    subst P is tt
listed_or-pen None word e found = numbered_of-pen word e found

-- what is found is an element of this name
pub element_of-found : (word : Word) (e : Element) → element_of word ≡ Some e → IsElement e × (word ≡ element_name e)
unfolding element_of
element_of-found word e found =
    let read = bind_some (listed_or (find (λ line. bytes_eq line.name word) registry) word) (element_if_named word) e found in
    let passed = cond_some (ltb read.0.number 32768 && bytes_eq (element_name read.0) word) read.0 e read.2 in
    let tests = and_parts (ltb read.0.number 32768) (bytes_eq (element_name read.0) word) passed.0 in
    let pen = listed_or-pen (find (λ line. bytes_eq line.name word) registry) word read.0 read.1 in
    let below = ltb-true read.0.number 32768 tests.0 in
    let name = (bytes_eq-Decides (element_name read.0) word).0 tests.1 in
    let P : Element → Type 0 = λ x. IsElement x × (word ≡ element_name x) in
    subst P passed.1 (record { pen = pen; number = below }, sym name)

checked-passes : (word : Word) (e : Element) → e.number < 32768 → word ≡ element_name e → element_if_named word e ≡ Some e
checked-passes word e below name =
    let same = (bytes_eq-Decides (element_name e) word).1 (sym name) in
    rw (lt-ltb e.number 32768 below, same) refl

-- each line of the registry is that of its number
own_line : Option Registered → Registered → Bool
own_line None line = false
own_line (Some other) line = bytes_eq other.name line.name

is_own : Registered → Bool
is_own line = ltb line.number 32768 && own_line (line_of line.number) line

all_own : list_all is_own registry ≡ true
unfolding registry is_own own_line
all_own = refl

find_step : {A : Type 0} (p q : A → Bool) (y : A) (ys : List A) (x : A) (b c : Bool) → q y ≡ c → q x ≡ true → (find p ys ≡ Some x → q x ≡ true → (z : A) × (find q ys ≡ Some z)) → cond b (Some y) (find p ys) ≡ Some x → (z : A) × (cond c (Some y) (find q ys) ≡ Some z)
find_step p q y ys x b true qc h rest e = (y, refl)
find_step p q y ys x true false qc h rest e = let same = same_Some y x e in absurd (false≢true (sym qc ∙ ap q same ∙ h))
find_step p q y ys x false false qc h rest e = rest e h

find_some : {A : Type 0} (p q : A → Bool) (xs : List A) (x : A) → find p xs ≡ Some x → q x ≡ true → (y : A) × (find q xs ≡ Some y)
find_some p q [] x e h = absurd (none-some x e)
find_some p q (y ∷ ys) x e h = find_step p q y ys x (p y) (q y) refl h (find_some p q ys x) e

own_name : (o : Option Registered) (line : Registered) (otherwise : List ℕ) → own_line o line ≡ true → name_on o otherwise ≡ line.name
unfolding own_line
own_name None line otherwise h = absurd (false≢true h)
own_name (Some other) line otherwise h = (bytes_eq-Decides other.name line.name).0 h

-- a line that has this name gives an element that has it
listed-passes : (word : Word) (line : Registered) → find (λ l. bytes_eq l.name word) registry ≡ Some line → element_if_named word (record { pen = None; number = line.number }) ≡ Some (record { pen = None; number = line.number })
unfolding is_own element_name
listed-passes word line e =
    let found = find_both (λ l. bytes_eq l.name word) is_own registry line e all_own in
    let name = (bytes_eq-Decides line.name word).0 found.0 in
    let tests = and_parts (ltb line.number 32768) (own_line (line_of line.number) line) found.1 in
    let own = own_name (line_of line.number) line (numbered_name None line.number) tests.1 in
    checked-passes word (record { pen = None; number = line.number }) (ltb-true line.number 32768 tests.0) (sym (own ∙ name))

digits_lack_slash : (ds : List ℕ) → AllDigits 10 ds → Lacks 47 ds
digits_lack_slash [] h = tt
digits_lack_slash (c ∷ cs) h = let low = h.0 in (digit_other c 47 (omega arith) refl, digits_lack_slash cs h.1)

no_place : (byte : ℕ) (octets : List ℕ) → Lacks byte octets → position_or_len (λ c. eqb c byte) octets ≡ length octets
no_place byte [] h = refl
no_place byte (c ∷ cs) h = let rest = no_place byte cs h.1 in rw h.0 (omega (arith, rest))

no_slash : (numbers : Word) → Lacks 47 numbers → cut_at 47 numbers ≡ None
unfolding cut_at
no_slash numbers lacks =
    let place = no_place 47 numbers lacks in
    rw (place, le-ltb (length numbers) (length numbers) (omega arith)) refl

numbered_of-name : (pen : Option ℕ) (n : ℕ) → IfSome pen (λ p. p < 2 ^ 32) → n < 32768 → numbered_of (numbered_name pen n) ≡ Some (record { pen = pen; number = n })
numbered_of-name None n small below =
    let lacks = digits_lack_slash (decimal n) (decimal_is_IsNumeral n (omega arith)).0.1 in
    rw (no_slash (decimal n) lacks, number_of-only 32767 (decimal n) n (omega arith) (record { bound = omega arith; text = refl })) refl
numbered_of-name (Some p) n small below =
    let lacks = digits_lack_slash (decimal p) (decimal_is_IsNumeral p (omega arith)).0.1 in
    rw (cut_at-middle 47 (decimal p) (decimal n) lacks, number_of-only 4294967295 (decimal p) p (omega arith) (record { bound = omega arith; text = refl }), number_of-only 32767 (decimal n) n (omega arith) (record { bound = omega arith; text = refl })) refl

some_found : (word : Word) (e : Element) → IsElement e → word ≡ element_name e → (o : Option Registered) → find (λ line. bytes_eq line.name word) registry ≡ o → (x : Element) × ((listed_or o word >>= element_if_named word) ≡ Some x)
some_found word e ok name (Some line) found = (record { pen = None; number = line.number }, listed-passes word line found)
some_found word e ok name None found =
    ⊎_elim (λ (listed : (e.pen ≡ None) × IsLineName e.number word).
    let by_name = find_some (λ l. eqb l.number e.number) (λ l. bytes_eq l.name word) registry listed.1.0 listed.1.1 ((bytes_eq-Decides listed.1.0.name word).1 listed.1.2) in
    absurd (none-some by_name.0 (sym found ∙ by_name.1)))
    (λ (unlisted : (line_for e.pen e.number ≡ None) × (word ≡ numbered_name e.pen e.number)).
    let read : numbered_of word ≡ Some e = ap numbered_of unlisted.1 ∙ numbered_of-name e.pen e.number ok.pen ok.number in
    (e, ap (λ o. o >>= element_if_named word) read ∙ checked-passes word e ok.number name))
    (named_how e word name)

-- the element of this name is found
pub element_of-only : (word : Word) (e : Element) → IsElement e → word ≡ element_name e → element_of word ≡ Some e
unfolding element_of
element_of-only word e ok name =
    let some = some_found word e ok name (find (λ line. bytes_eq line.name word) registry) refl in
    let read = element_of-found word some.0 some.1 in
    some.1 ∙ ap (λ (x : Element). Some x) (sym (one_name e some.0 ok read.0 (sym name ∙ read.1)))

octet_ascii : (c : ℕ) → is_name_octet c ≡ true → c < 128
octet_ascii c h = grind (arith, nat_tests)

-- a word that is no text names no element
pub element_of-text : (word : Word) → (IsUtf8 word → ⊥) → element_of word ≡ None
element_of-text word none = by_answer (element_of word) refl
  where
    by_answer : (o : Option Element) → element_of word ≡ o → o ≡ None
    by_answer None e = refl
    by_answer (Some x) e =
        let read = element_of-found word x e in
        let one = one_word x read.0 in
        let P : List ℕ → Type 0 = λ t. list_all is_name_octet t ≡ true in
        absurd (none (IsUtf8-from_ascii word (ascii_by is_name_octet octet_ascii word (subst P (sym read.1) one.1))))

-- whatever answers by names answers so
pub element_of-answer : (word : Word) (r : Option Element) → IfSome r (λ e. IsElement e × (word ≡ element_name e)) → ((e : Element) → IsElement e → word ≡ element_name e → r ≡ Some e) → r ≡ element_of word
element_of-answer word (Some e) found only = sym (element_of-only word e found.0 found.1)
element_of-answer word None found only = by_answer (element_of word) refl
  where
    by_answer : (o : Option Element) → element_of word ≡ o → None ≡ o
    by_answer None e = refl
    by_answer (Some x) e = let read = element_of-found word x e in only x read.0 read.1
