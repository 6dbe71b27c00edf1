-- Which texts are names, and that an element's name is its alone.
use Rattle.std.proofs.Common.{◌≡◌, ◌≢◌, ℕ, suc, ◌^◌, ◌<◌, ◌≤◌, ◌⊎◌, le-leb, true, List, [], ◌∷◌, ◌++◌, length, get_or, Option, Some, None, IfSome, refl, ap, sym, ◌∙◌, subst, inl, inr, length-append, arith}
use Rattle.std.specs.Fmt.{decimal}
use Rattle.std.specs.List.{list_all}
use Rattle.std.specs.Char.{digit_value}
use Rattle.std.specs.Str.Parse.{AllDigits, digits_value}
use Rattle.std.proofs.lemmas.List.Folds.{list_all-append}
use Rattle.std.proofs.Math.Seq.{get_or-append_seam}
use Rattle.std.proofs.lemmas.List.{get_or_append_left}
use Rattle.std.proofs.lemmas.Bool.{false≢true}
use Rattle.std.proofs.lemmas.Str.Parse.{IsNumeralModel, numerals_by_value, tells_digits, not_in_digits, digit_at, digit_from_value}
use Rattle.std.proofs.lemmas.Fmt.{decimal_injective, decimal_nonempty, digits_decimal}
use Rattle.numerals.specs.Numerals.{IsNumber}
use Rattle.ipfix_element.specs.Element.{Element, IsElement}
use Rattle.ipfix_element.specs.Registry.{Registered, line_for}
use Rattle.ipfix_element.specs.Names.{numbered_name, name_on, element_name, OneName, OneWord, is_name_octet}
use Rattle.ipfix_element.specs.Lines.{IsLineName}
use Rattle.ipfix_element.proofs.RegistryLaws.{looks_numbered, line_is, line_word, named_only}

own : IsNumeralModel (AllDigits 10) (digits_value 10)
own = numerals_by_value _ tells_digits

no_slash-decimal : (n : ℕ) → n < 2 ^ 32 → (i : ℕ) → i < length (decimal n) → get_or (decimal n) i 0 ≢ 47
no_slash-decimal n small =
    not_in_digits own (decimal n) 47 (digits_decimal own n (omega arith)) (λ r. omega arith)

first_digit : (n : ℕ) → n < 2 ^ 32 → (0 < length (decimal n)) × (48 ≤ get_or (decimal n) 0 0) × (get_or (decimal n) 0 0 ≤ 57)
first_digit n small =
    let some = decimal_nonempty n (omega arith) in
    let digit = digit_at (decimal n) 0 (digits_decimal own n (omega arith)) some in
    (some, digit.0, digit.1)

abbrev Lacks : ℕ → List ℕ → Type 0
Lacks c xs = (i : ℕ) → i < length xs → get_or xs i 0 ≢ c

behind : (c x : ℕ) (xs : List ℕ) → Lacks c (x ∷ xs) → Lacks c xs
behind c x xs h i less = h (suc i) (omega arith)

-- a list is cut at the first c in one way
cut_once : (c : ℕ) (xs ys us vs : List ℕ) → Lacks c xs → Lacks c us → xs ++ (c ∷ ys) ≡ us ++ (c ∷ vs) → (xs ≡ us) × (ys ≡ vs)
cut_once c [] ys [] vs h k e = (refl, cc)
cut_once c [] ys (u ∷ us) vs h k e =
    let same : u ≡ c = cc in absurd (k 0 (omega arith) same)
cut_once c (x ∷ xs) ys [] vs h k e =
    let same : x ≡ c = cc in absurd (h 0 (omega arith) same)
cut_once c (x ∷ xs) ys (u ∷ us) vs h k e =
    let tails : xs ++ (c ∷ ys) ≡ us ++ (c ∷ vs) = cc in
    let heads : x ≡ u = cc in
    let rest = cut_once c xs ys us vs (behind c x xs h) (behind c u us k) tails in
    (cc, rest.1)

-- where a c stands, none is lacking
not_lacking : (c : ℕ) (text xs ys : List ℕ) → Lacks c text → text ≡ xs ++ (c ∷ ys) → ⊥
not_lacking c text xs ys h e =
    let at : get_or text (length xs) 0 ≡ c = ap (λ t. get_or t (length xs) 0) e ∙ get_or-append_seam xs c ys 0 in
    let long : length xs < length text = omega (arith, ap length e, length-append xs (c ∷ ys)) in
    h (length xs) long at

-- what stands behind the `e`
pub numbers_of : Option ℕ → ℕ → List ℕ
numbers_of None number = decimal number
numbers_of (Some pen) number = decimal pen ++ (47 ∷ decimal number)

pub numbered_name-is : (pen : Option ℕ) (number : ℕ) → numbered_name pen number ≡ 101 ∷ numbers_of pen number
unfolding numbers_of
numbered_name-is None number = refl
numbered_name-is (Some pen) number = refl

-- what `numbered` owes where no `e` stands first
pub no_e : (text : List ℕ) → ((rest : List ℕ) → text ≢ 101 ∷ rest) → (e : Element) → text ≡ numbered_name e.pen e.number → ⊥
no_e text h e is = h (numbers_of e.pen e.number) (is ∙ numbered_name-is e.pen e.number)

-- the numbers behind the `e` are those of an element of an enterprise
pub record IsPair (pen number : List ℕ) (e : Element) : Type 0 where
  pub enterprise : ℕ
  pub is : e.pen ≡ Some enterprise
  pub pen_number : IsNumber 4294967295 pen enterprise
  pub number_text : number ≡ decimal e.number

pair_at : (pen number : List ℕ) (p : Option ℕ) (n : ℕ) → IfSome p (λ v. v < 2 ^ 32) → n < 32768 → Lacks 47 pen → pen ++ (47 ∷ number) ≡ numbers_of p n → IsPair pen number (record { pen = p; number = n })
unfolding numbers_of
pair_at pen number None n fits below lacks e =
    absurd (not_lacking 47 (decimal n) pen number (no_slash-decimal n (omega arith)) (sym e))
pair_at pen number (Some v) n fits below lacks e =
    let parts = cut_once 47 pen number (decimal v) (decimal n) lacks (no_slash-decimal v fits) e in
    let small : v < 2 ^ 32 = fits in
    record { enterprise = v; is = refl; pen_number = record { bound = omega (arith, small); text = parts.0 }; number_text = parts.1 }

behind_e : (text numbers : List ℕ) (e : Element) → text ≡ 101 ∷ numbers → text ≡ numbered_name e.pen e.number → numbers ≡ numbers_of e.pen e.number
behind_e text numbers e front is =
    let same : 101 ∷ numbers ≡ 101 ∷ numbers_of e.pen e.number = sym front ∙ is ∙ numbered_name-is e.pen e.number in
    cc

pub slash_is : (text numbers pen number : List ℕ) → text ≡ 101 ∷ numbers → numbers ≡ pen ++ (47 ∷ number) → Lacks 47 pen → (e : Element) → IsElement e → text ≡ numbered_name e.pen e.number → IsPair pen number e
slash_is text numbers pen number front cut lacks e ok is =
    pair_at pen number e.pen e.number ok.pen ok.number lacks (sym cut ∙ behind_e text numbers e front is)

single_at : (numbers : List ℕ) (p : Option ℕ) (n : ℕ) → Lacks 47 numbers → numbers ≡ numbers_of p n → (p ≡ None) × (numbers ≡ decimal n)
unfolding numbers_of
single_at numbers None n lacks e = (refl, e)
single_at numbers (Some v) n lacks e = absurd (not_lacking 47 numbers (decimal v) (decimal n) lacks e)

pub single_is : (text numbers : List ℕ) → text ≡ 101 ∷ numbers → Lacks 47 numbers → (e : Element) → text ≡ numbered_name e.pen e.number → (e.pen ≡ None) × (numbers ≡ decimal e.number)
single_is text numbers front lacks e is =
    single_at numbers e.pen e.number lacks (behind_e text numbers e front is)

-- what `numbered` owes of an element of an enterprise that it found
pub pair_found : (text numbers pen number : List ℕ) (p : ℕ) (r : Option Element) → text ≡ 101 ∷ numbers → numbers ≡ pen ++ (47 ∷ number) → IsNumber 4294967295 pen p → IfSome r (λ e. (e.pen ≡ Some p) × (e.number < 32768) × (number ≡ decimal e.number)) → IfSome r (λ e. IsElement e × (text ≡ numbered_name e.pen e.number))
pair_found text numbers pen number p None front cut read found = tt
pair_found text numbers pen number p (Some e) front cut read found =
    let bound = read.bound in
    let fits_pen : p < 2 ^ 32 = omega (arith, bound) in
    let shown : numbered_name (Some p) e.number ≡ numbered_name e.pen e.number = ap (λ q. numbered_name q e.number) (sym found.0) in
    let fits = subst (λ (q : Option ℕ). IfSome q (λ v. v < 2 ^ 32)) (sym found.0) fits_pen in
    let whole = front ∙ ap (λ ns. 101 ∷ ns) cut ∙ ap (λ ds. 101 ∷ (ds ++ (47 ∷ number))) read.text ∙ ap (λ ds. 101 ∷ (decimal p ++ (47 ∷ ds))) found.2 in
    (record { pen = fits; number = found.1 }, whole ∙ shown)

-- an element by its parts
pub same_element : (a b : Element) → a.pen ≡ b.pen → a.number ≡ b.number → a ≡ b
same_element a b pens numbers =
    let f : Option ℕ → Element = λ p. record { pen = p; number = a.number } in
    let g : ℕ → Element = λ n. record { pen = b.pen; number = n } in
    ap f pens ∙ ap g numbers

pub made_is : (r : Option Element) (p : Option ℕ) (e : Element) → r ≡ Some (record { pen = p; number = e.number }) → p ≡ e.pen → r ≡ Some e
made_is r p e made same = made ∙ ap Some (same_element (record { pen = p; number = e.number }) e same refl)

-- an element with a line of the registry, which names it, or one without, which its numbers name
abbrev Listed : Element → List ℕ → Type 0
Listed e text = (e.pen ≡ None) × IsLineName e.number text

abbrev Unlisted : Element → List ℕ → Type 0
Unlisted e text = (line_for e.pen e.number ≡ None) × (text ≡ numbered_name e.pen e.number)

by_line : (p : Option ℕ) (n : ℕ) (line : Registered) (text : List ℕ) → line_for p n ≡ Some line → text ≡ line.name → Listed (record { pen = p; number = n }) text
by_line None n line text e is = (refl, (line, e, sym is))
by_line (Some v) n line text e is = cc

named_by : (p : Option ℕ) (n : ℕ) (o : Option Registered) (text : List ℕ) → line_for p n ≡ o → text ≡ name_on o (numbered_name p n) → Listed (record { pen = p; number = n }) text ⊎ Unlisted (record { pen = p; number = n }) text
named_by p n None text e is = inr (e, is)
named_by p n (Some line) text e is = inl (by_line p n line text e is)

pub named_how : (e : Element) (text : List ℕ) → text ≡ element_name e → Listed e text ⊎ Unlisted e text
unfolding element_name
named_how e text is = named_by e.pen e.number (line_for e.pen e.number) text refl is

-- a name by numbers has a digit behind its `e`
digit_first : (n : ℕ) (rest : List ℕ) → n < 2 ^ 32 → (48 ≤ get_or (decimal n ++ rest) 0 0) × (get_or (decimal n ++ rest) 0 0 ≤ 57)
digit_first n rest small =
    let first = first_digit n small in
    let same = get_or_append_left (decimal n) rest 0 0 first.0 in
    (omega arith, omega arith)

numbers_begin : (p : Option ℕ) (n : ℕ) → IfSome p (λ v. v < 2 ^ 32) → n < 32768 → (48 ≤ get_or (numbers_of p n) 0 0) × (get_or (numbers_of p n) 0 0 ≤ 57)
unfolding numbers_of
numbers_begin None n fits below = let first = first_digit n (omega arith) in (first.1, first.2)
numbers_begin (Some v) n fits below = digit_first v (47 ∷ decimal n) fits

looks : (numbers : List ℕ) → (48 ≤ get_or numbers 0 0) × (get_or numbers 0 0 ≤ 57) → looks_numbered (101 ∷ numbers) ≡ true
unfolding looks_numbered
looks numbers h = rw (le-leb _ _ h.0, le-leb _ _ h.1) refl

pub numbered_looks : (e : Element) → IsElement e → looks_numbered (numbered_name e.pen e.number) ≡ true
numbered_looks e ok =
    ap looks_numbered (numbered_name-is e.pen e.number) ∙ looks (numbers_of e.pen e.number) (numbers_begin e.pen e.number ok.pen ok.number)

-- no text is a registry name and a name by numbers
pub apart : (text : List ℕ) (a b : Element) → Listed a text → IsElement b → text ≡ numbered_name b.pen b.number → ⊥
apart text a b (none, (line, is, name)) ok e =
    let looks = ap looks_numbered (name ∙ e) ∙ numbered_looks b ok in
    false≢true (sym (line_is a.number line is).1 ∙ looks)

one_number : (text : List ℕ) (m n : ℕ) → IsLineName m text → IsLineName n text → m ≡ n
one_number text m n h k =
    let same : Some m ≡ Some n = sym (named_only m text h) ∙ named_only n text k in
    cc

numbers_once : (p q : Option ℕ) (m n : ℕ) → IfSome p (λ v. v < 2 ^ 32) → m < 32768 → IfSome q (λ v. v < 2 ^ 32) → n < 32768 → numbers_of p m ≡ numbers_of q n → (p ≡ q) × (m ≡ n)
unfolding numbers_of
numbers_once None None m n fp below fq less e =
    (refl, decimal_injective m n (omega arith) (omega arith) e)
numbers_once (Some v) None m n fp below fq less e =
    absurd (not_lacking 47 (decimal n) (decimal v) (decimal m) (no_slash-decimal n (omega arith)) (sym e))
numbers_once None (Some w) m n fp below fq less e =
    absurd (not_lacking 47 (decimal m) (decimal w) (decimal n) (no_slash-decimal m (omega arith)) e)
numbers_once (Some v) (Some w) m n fp below fq less e =
    let parts = cut_once 47 (decimal v) (decimal m) (decimal w) (decimal n) (no_slash-decimal v fp) (no_slash-decimal w fq) e in
    (ap Some (decimal_injective v w (omega arith) (omega arith) parts.0), decimal_injective m n (omega arith) (omega arith) parts.1)

numbered_once : (a b : Element) → IsElement a → IsElement b → numbered_name a.pen a.number ≡ numbered_name b.pen b.number → a ≡ b
numbered_once a b ok well e =
    let same : 101 ∷ numbers_of a.pen a.number ≡ 101 ∷ numbers_of b.pen b.number = sym (numbered_name-is a.pen a.number) ∙ e ∙ numbered_name-is b.pen b.number in
    let tails : numbers_of a.pen a.number ≡ numbers_of b.pen b.number = cc in
    let parts = numbers_once a.pen b.pen a.number b.number ok.pen ok.number well.pen well.number tails in
    same_element a b parts.0 parts.1

one_of : (text : List ℕ) (a b : Element) → IsElement a → IsElement b → Listed a text ⊎ Unlisted a text → Listed b text ⊎ Unlisted b text → a ≡ b
one_of text a b ok well (inl h) (inl k) =
    same_element a b (h.0 ∙ sym k.0) (one_number text a.number b.number h.1 k.1)
one_of text a b ok well (inl h) (inr k) = absurd (apart text a b h well k.1)
one_of text a b ok well (inr h) (inl k) = absurd (apart text b a k ok h.1)
one_of text a b ok well (inr h) (inr k) = numbered_once a b ok well (sym h.1 ∙ k.1)

pub one_name : OneName
one_name a b ok well e =
    one_of (element_name a) a b ok well (named_how a (element_name a) refl) (named_how b (element_name a) e)

-- what `by_name` owes where the text is a registry name
pub line_only : (text : List ℕ) (n : ℕ) → (n < 32768) × IsLineName n text → (e : Element) → IsElement e → text ≡ element_name e → record { pen = None; number = n } ≡ e
line_only text n (below, line) e ok is =
    let found : Element = record { pen = None; number = n } in
    one_of text found e (record { pen = tt; number = below }) ok (inl (refl, line)) (named_how e text is)

-- and where it is none: only its numbers can name an element
unlisted_from : (text : List ℕ) (e : Element) → ((n : ℕ) → IsLineName n text → None ≡ Some n) → Listed e text ⊎ Unlisted e text → Unlisted e text
unlisted_from text e none (inl h) =
    let clash = none e.number h.1 in cc
unlisted_from text e none (inr h) = h

pub no_line : (text : List ℕ) → ((n : ℕ) → IsLineName n text → None ≡ Some n) → (e : Element) → text ≡ element_name e → (line_for e.pen e.number ≡ None) × (text ≡ numbered_name e.pen e.number)
no_line text none e is = unlisted_from text e none (named_how e text is)

-- an element without a line is none with one
pub not_both : (a b : Element) (line : Registered) → Some a ≡ Some b → Some line ≡ line_for a.pen a.number → line_for b.pen b.number ≡ None → ⊥
not_both a b line same has lacks =
    let one : a ≡ b = cc in
    let moved = ap (λ (x : Element). line_for x.pen x.number) one in
    let clash : Some line ≡ None = has ∙ moved ∙ lacks in
    cc

-- digits are octets of a name
digit_passes : (d : ℕ) → digit_value d < 10 → is_name_octet d ≡ true
digit_passes d h =
    let range = digit_from_value d h in rw (le-leb 48 d range.0, le-leb d 57 range.1) refl

digits_pass : (ds : List ℕ) → AllDigits 10 ds → list_all is_name_octet ds ≡ true
digits_pass [] h = refl
digits_pass (d ∷ ds) h = rw (digit_passes d h.0, digits_pass ds h.1) refl

decimal_pass : (n : ℕ) → n < 2 ^ 32 → list_all is_name_octet (decimal n) ≡ true
decimal_pass n small = digits_pass (decimal n) (digits_decimal own n (omega arith))

word_at : (p : Option ℕ) (n : ℕ) → IfSome p (λ v. v < 2 ^ 32) → n < 32768 → list_all is_name_octet (101 ∷ numbers_of p n) ≡ true
unfolding numbers_of
word_at None n fits below = decimal_pass n (omega arith)
word_at (Some v) n fits below =
    rw (list_all-append is_name_octet (decimal v) (47 ∷ decimal n), decimal_pass v fits, decimal_pass n (omega arith)) refl

numbered_word : (e : Element) → IsElement e → (0 < length (numbered_name e.pen e.number)) × (list_all is_name_octet (numbered_name e.pen e.number) ≡ true)
numbered_word e ok =
    let shape = numbered_name-is e.pen e.number in
    (omega (arith, ap length shape), ap (list_all is_name_octet) shape ∙ word_at e.pen e.number ok.pen ok.number)

word_of : (text : List ℕ) (e : Element) → IsElement e → Listed e text ⊎ Unlisted e text → (0 < length text) × (list_all is_name_octet text ≡ true)
word_of text e ok (inl (none, (line, is, name))) =
    let word = line_word e.number line is in
    (omega (arith, ap length name, word.0), sym (ap (list_all is_name_octet) name) ∙ word.1)
word_of text e ok (inr (none, is)) =
    let word = numbered_word e ok in
    (omega (arith, ap length is, word.0), ap (list_all is_name_octet) is ∙ word.1)

pub one_word : OneWord
one_word e ok = word_of (element_name e) e ok (named_how e (element_name e) refl)
