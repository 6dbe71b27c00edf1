-- The registry has each number once and each name once, and no name like that of an element by its number.
use Rattle.std.proofs.Common.{◌≡◌, ℕ, ◌<◌, Bool, true, false, cond, not, ◌&&◌, eqb, ltb, leb, List, [], ◌∷◌, get_or, length, Option, Some, None, IfSome, refl, ap, sym, ◌∙◌, subst}
use Rattle.std.specs.List.{find, list_all}
use Rattle.std.proofs.lemmas.Bool.{false≢true, and_parts, not-true}
use Rattle.std.proofs.lemmas.Bool.Decides.{Decides-eqb, Decides-ltb}
use Rattle.std.proofs.lemmas.Slice.Eq.{bytes_eq-Decides}
use Rattle.ipfix_element.specs.declared.registry.TheConstants.{NUMBERS}
use Rattle.ipfix_element.specs.Registry.{Registered, registry, line_of}
use Rattle.ipfix_element.specs.Names.{is_name_octet}
use Rattle.ipfix_element.specs.Lines.{IsLineName, has_name, is_named}

step : {A : Type 0} (p q : A → Bool) (y : A) (ys : List A) (x : A) (b c : Bool) → p y ≡ b → q y ≡ c → (find p ys ≡ Some x → list_all q ys ≡ true → (p x ≡ true) × (q x ≡ true)) → cond b (Some y) (find p ys) ≡ Some x → (c && list_all q ys) ≡ true → (p x ≡ true) × (q x ≡ true)
step p q y ys x true true pb qc rest e h =
    let same : y ≡ x = cc in (sym (ap p same) ∙ pb, sym (ap q same) ∙ qc)
step p q y ys x false true pb qc rest e h = rest e h
step p q y ys x true false pb qc rest e h = absurd (false≢true h)
step p q y ys x false false pb qc rest e h = absurd (false≢true h)

-- what is found passes the test, and what all pass
pub find_both : {A : Type 0} (p q : A → Bool) (xs : List A) (x : A) → find p xs ≡ Some x → list_all q xs ≡ true → (p x ≡ true) × (q x ≡ true)
find_both p q [] x e h = cc
find_both p q (y ∷ ys) x e h = step p q y ys x (p y) (q y) refl refl (find_both p q ys x) e h

holds : Option ℕ → ℕ → Bool
holds None n = false
holds (Some m) n = eqb m n

holds-Some : (o : Option ℕ) (n : ℕ) → holds o n ≡ true → o ≡ Some n
unfolding holds
holds-Some None n h = absurd (false≢true h)
holds-Some (Some m) n h = ap Some ((Decides-eqb m n).0 h)

-- `e` (101), and a digit behind it
unfoldable pub looks_numbered : List ℕ → Bool
looks_numbered text = eqb (get_or text 0 0) 101 && (leb 48 (get_or text 1 0) && leb (get_or text 1 0) 57)

-- the name leads back to the number, and is no number's
keeps_apart : Registered → Bool
keeps_apart line = holds (find (λ n. is_named n line.name) NUMBERS) line.number && not (looks_numbered line.name)

all_kept_apart : list_all keeps_apart registry ≡ true
unfolding registry keeps_apart holds looks_numbered
all_kept_apart = refl

-- a line is found by its number, its name leads back to it, and looks like no number's
pub line_is : (number : ℕ) (line : Registered) → line_of number ≡ Some line → (find (λ n. is_named n line.name) NUMBERS ≡ Some number) × (looks_numbered line.name ≡ false)
unfolding keeps_apart
line_is number line e =
    let found = find_both (λ l. eqb l.number number) keeps_apart registry line e all_kept_apart in
    let same = (Decides-eqb line.number number).0 found.0 in
    let parts = and_parts (holds (find (λ n. is_named n line.name) NUMBERS) line.number) _ found.1 in
    (holds-Some _ _ parts.0 ∙ ap Some same, not-true _ parts.1)

pub named_only : (number : ℕ) (text : List ℕ) → IsLineName number text → find (λ n. is_named n text) NUMBERS ≡ Some number
named_only number text (line, is, name) =
    let P : List ℕ → Type 0 = λ t. find (λ n. is_named n t) NUMBERS ≡ Some number in
    subst P name (line_is number line is).0

has_name-line : (o : Option Registered) (text : List ℕ) → has_name o text ≡ true → (line : Registered) × (o ≡ Some line) × (line.name ≡ text)
has_name-line None text h = absurd (false≢true h)
has_name-line (Some line) text h = (line, refl, (bytes_eq-Decides line.name text).0 h)

numbers_below : list_all (λ n. ltb n 32768) NUMBERS ≡ true
numbers_below = refl

found_is : (text : List ℕ) (number : ℕ) → find (λ n. is_named n text) NUMBERS ≡ Some number → (number < 32768) × IsLineName number text
found_is text number e =
    let found = find_both (λ n. is_named n text) (λ n. ltb n 32768) NUMBERS number e numbers_below in
    ((Decides-ltb number 32768).0 found.1, has_name-line (line_of number) text found.0)

pub named_found : (text : List ℕ) (r : Option ℕ) → r ≡ find (λ n. is_named n text) NUMBERS → IfSome r (λ n. (n < 32768) × IsLineName n text)
named_found text None e = tt
named_found text (Some n) e = found_is text n (sym e)

is_word : Registered → Bool
is_word line = ltb 0 (length line.name) && list_all is_name_octet line.name

all_words : list_all is_word registry ≡ true
unfolding registry is_word
all_words = refl

pub line_word : (number : ℕ) (line : Registered) → line_of number ≡ Some line → (0 < length line.name) × (list_all is_name_octet line.name ≡ true)
unfolding is_word
line_word number line e =
    let found = find_both (λ l. eqb l.number number) is_word registry line e all_words in
    let parts = and_parts (ltb 0 (length line.name)) _ found.1 in
    ((Decides-ltb 0 (length line.name)).0 parts.0, parts.1)
