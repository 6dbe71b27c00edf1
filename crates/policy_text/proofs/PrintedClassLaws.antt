-- Each printed word is read back by its class.
use Rattle.std.proofs.Common.{◌≡◌, ℕ, zero, suc, ◌^◌, ◌<◌, ◌≤◌, true, false, eqb, List, [], ◌∷◌, ◌++◌, length, get_or, map, Option, Some, None, Result, Ok, Err, refl, sym, ap, ◌∙◌, subst, arith, ⊎_elim, append_assoc, append-nil, length-append, IfSome}
use Rattle.std.proofs.lemmas.List.{length-map}
use Rattle.std.specs.List.{All, AllByRecursion, list_all}
use Rattle.std.specs.Char.{is_ascii_lowercase, digit_value}
use Rattle.std.specs.Str.{bytes_eq}
use Rattle.std.specs.Fmt.{decimal}
use Rattle.std.proofs.lemmas.Fmt.{decimal_is_IsNumeral}
use Rattle.std.proofs.lemmas.Slice.Eq.{bytes_eq-Decides}
use Rattle.std.proofs.lemmas.Bool.{ne_eqb, false≢true, and_parts, le-leb, le-ltb, cases_Bool}
use Rattle.ipfix_element.specs.Element.{Element, IsElement}
use Rattle.ipfix_element.specs.Registry.{registry}
use Rattle.ipfix_element.specs.Names.{element_name, is_name_octet as element_octet}
use Rattle.ipfix_element.proofs.NameLaws.{one_word}
use Rattle.flow_prefix.specs.declared.family.Family.{Family}
use Rattle.flow_prefix.specs.declared.family.Family.TheVariants.{Ipv4, Ipv6}
use Rattle.flow_prefix.specs.declared.prefix.Prefix.{Prefix}
use Rattle.flow_prefix.specs.declared.prefix.Prefix.TheVariants.{V4, V6}
use Rattle.flow_prefix.specs.Family.{separator}
use Rattle.numerals.specs.Numerals.{number_of, digits_number}
use Rattle.flow_prefix.specs.Text.{IsPrefixForm}
use Rattle.flow_prefix.specs.Reading.{prefix_of, cut_at}
use Rattle.flow_prefix.specs.Prefixes.{IsPrefix}
use Rattle.flow_prefix.specs.Printing.{prefix_text}
use Rattle.numerals.proofs.NumeralLaws.{number_of-only}
use Rattle.flow_prefix.proofs.AddressTextLaws.{Lacks-digits, AllDigits-wider}
use Rattle.flow_prefix.proofs.AddressReadLaws.{written_lacks}
use Rattle.flow_prefix.proofs.PrintLaws.{prefix_text-is, reads_back}
use Rattle.sequences.proofs.ResultLaws.{Err-Ok}
use Rattle.sequences.proofs.ListLaws.{Lacks, AllByRecursion-append}
use Rattle.sequences.proofs.JoinLaws.{split-joined}
use Rattle.policy_text.specs.declared.fault.FaultKind.{FaultKind}
use Rattle.policy_text.specs.declared.fault.FaultKind.TheVariants.{BadName, BadNumber, BadPrefix}
use Rattle.policy_text.specs.Words.{Word}
use Rattle.policy_text.specs.Naming.{is_name, is_name_octet}
use Rattle.policy_text.specs.Elements.{element_of}
use Rattle.policy_text.specs.Policies.{Aggregate as Definition}
use Rattle.policy_text.specs.Classes.{name, number, element, prefix, prefix_or_fault, star, or_star, add_piece, add_pieces, key_of, place_of, aggregate_place, new_name, interval, bits_within}
use Rattle.policy_text.specs.Grammar.{IsKey}
use Rattle.policy_text.specs.Printing.{word_or_star, key_text}
use Rattle.policy_text.proofs.NameLaws.{name_parts}
use Rattle.policy_text.proofs.ElementLaws.{element_of-only}
use Rattle.policy_text.proofs.KeyStepLaws.{IsKeyAfter, step_by_step}
use Rattle.policy_text.proofs.PlainLaws.{IsPlain, ArePlain, plain_each, plain_lacking, joined_is_plain}

-- printed words are plain
name_some : (word : Word) → is_ascii_lowercase (get_or word 0 0) ≡ true → 0 < length word
name_some [] h = absurd (false≢true h)
name_some (c ∷ cs) h = omega arith

pub name_plain : (word : Word) → is_name word ≡ true → IsPlain word
name_plain word h =
    let parts = name_parts word h in
    record { some = name_some word parts.first; each = plain_each is_name_octet (record { space = refl; tab = refl; carriage = refl; feed = refl }) word parts.octets }

pub element_plain : (e : Element) → IsElement e → IsPlain (element_name e)
element_plain e ok =
    let word = one_word e ok in
    record { some = word.0; each = plain_each element_octet (record { space = refl; tab = refl; carriage = refl; feed = refl }) (element_name e) word.1 }

form_lacks : (family : Family) (byte : ℕ) → digit_value byte ≡ 36 → eqb (separator family) byte ≡ false → eqb 47 byte ≡ false → (text : List ℕ) (address bits : ℕ) → IsPrefixForm text family address bits → Lacks byte text
form_lacks family byte other apart slash text address bits h =
    let short = h.three_digits in
    let digits = Lacks-digits byte other (decimal bits) (AllDigits-wider (decimal bits) (decimal_is_IsNumeral bits (omega arith)).0.1) in
    let P : List ℕ → Type 0 = λ t. Lacks byte t in
    subst P (sym h.text_is) (AllByRecursion-append (λ c. eqb c byte ≡ false) h.front (47 ∷ decimal bits) (written_lacks family byte other apart h.front h.is_address.parts h.is_address.written) (slash, digits))

form_some : (text : List ℕ) (family : Family) (address bits : ℕ) → IsPrefixForm text family address bits → 0 < length text
form_some text family address bits h = omega (arith, ap length h.text_is, length-append h.front (47 ∷ decimal bits))

pub prefix_plain : (p : Prefix) → IsPrefix p → IsPlain (prefix_text p)
prefix_plain (V4 net) h =
    let form = (prefix_text-is (V4 net) h).0 in
    let lacks = λ (byte : ℕ) (other : digit_value byte ≡ 36) (apart : eqb 46 byte ≡ false) (slash : eqb 47 byte ≡ false). form_lacks Ipv4 byte other apart slash (prefix_text (V4 net)) net.address net.length form in
    record { some = form_some (prefix_text (V4 net)) Ipv4 net.address net.length form; each = plain_lacking (prefix_text (V4 net)) (lacks 32 refl refl refl) (lacks 9 refl refl refl) (lacks 13 refl refl refl) (lacks 10 refl refl refl) }
prefix_plain (V6 net) h =
    let form = (prefix_text-is (V6 net) h).0 in
    let lacks = λ (byte : ℕ) (other : digit_value byte ≡ 36) (apart : eqb 58 byte ≡ false) (slash : eqb 47 byte ≡ false). form_lacks Ipv6 byte other apart slash (prefix_text (V6 net)) net.address net.length form in
    record { some = form_some (prefix_text (V6 net)) Ipv6 net.address net.length form; each = plain_lacking (prefix_text (V6 net)) (lacks 32 refl refl refl) (lacks 9 refl refl refl) (lacks 13 refl refl refl) (lacks 10 refl refl refl) }

names_plain : (key : List Element) → AllByRecursion IsElement key → ArePlain (map element_name key)
names_plain [] h = tt
names_plain (e ∷ es) h = (element_plain e h.0, names_plain es h.1)

pub key_plain : (key : List Element) → IsKey key → 1 ≤ length key → IsPlain (key_text key)
key_plain key h some = joined_is_plain 44 (map element_name key) refl (omega (arith, length-map key element_name)) (names_plain key h.elements)

-- and read back
pub name-printed : (word : Word) → is_name word ≡ true → name word ≡ Ok word
unfolding name
name-printed word h = rw h refl

pub new_name-printed : (aggregates : List Definition) (word : Word) → is_name word ≡ true → place_of aggregates word ≡ None → new_name aggregates word ≡ Ok word
unfolding new_name
new_name-printed aggregates word h none = rw (h, none) refl

pub aggregate_place-printed : (aggregates : List Definition) (word : Word) (place : ℕ) → is_name word ≡ true → place_of aggregates word ≡ Some place → aggregate_place aggregates word ≡ Ok place
unfolding aggregate_place
aggregate_place-printed aggregates word place h at = rw (h, at) refl

pub number-printed : (most n : ℕ) → most < 2 ^ 64 → n ≤ most → number most (decimal n) ≡ Ok n
unfolding number
number-printed most n small h = rw (number_of-only most (decimal n) n small (record { bound = h; text = refl })) refl

pub interval-printed : (n : ℕ) → 1 ≤ n → n ≤ 86400 → interval (decimal n) ≡ Ok n
unfolding interval
interval-printed n low high = rw (number-printed 86400 n (omega arith) high, le-ltb n 1 low) refl

pub bits-printed : (width bits : ℕ) → bits ≤ width → bits < 1000 → bits_within width (decimal bits) ≡ Ok bits
unfolding bits_within
bits-printed width bits within short = rw (number-printed 999 bits (omega arith) (omega arith), le-leb bits width within) refl

pub element-printed : (e : Element) → IsElement e → element (element_name e) ≡ Ok e
unfolding element
element-printed e ok = rw (element_of-only (element_name e) e ok refl) refl

pub prefix-printed : (p : Prefix) → IsPrefix p → prefix (prefix_text p) ≡ Ok p
unfolding prefix
prefix-printed p ok = ap prefix_or_fault (reads_back p ok)

star_apart : {A : Type 0} (class : Word → Result A FaultKind) (kind : FaultKind) (word : Word) (a : A) → class word ≡ Ok a → class star ≡ Err kind → bytes_eq word star ≡ false
star_apart class kind word a read none =
    ⊎_elim (λ (same : bytes_eq word star ≡ true). absurd (Err-Ok kind a (sym none ∙ ap class (sym ((bytes_eq-Decides word star).0 same)) ∙ read)))
    (λ (other : bytes_eq word star ≡ false). other)
    (cases_Bool (bytes_eq word star))

pub or_star-word : {A : Type 0} (class : Word → Result A FaultKind) (kind : FaultKind) (word : Word) (a : A) → class word ≡ Ok a → class star ≡ Err kind → or_star class word ≡ Ok (Some a)
unfolding or_star
or_star-word class kind word a read none = rw (star_apart class kind word a read none, read) refl

pub or_star-star : {A : Type 0} (class : Word → Result A FaultKind) → or_star class star ≡ Ok None
unfolding or_star
or_star-star class = refl

-- a value's word, or `*`
pub or_star-printed : {A : Type 0} (class : Word → Result A FaultKind) (kind : FaultKind) (word : A → Word) (P : A → Type 0) → ((a : A) → P a → class (word a) ≡ Ok a) → class star ≡ Err kind → (o : Option A) → IfSome o P → or_star class (word_or_star word o) ≡ Ok o
or_star-printed class kind word P reads none None h = or_star-star class
or_star-printed class kind word P reads none (Some a) h = or_star-word class kind (word a) a (reads a h) none

pub name-star : name star ≡ Err BadName
unfolding name is_name
name-star = refl

pub number-star : (most : ℕ) → number most star ≡ Err BadNumber
unfolding number number_of digits_number
number-star most = refl

pub prefix-star : prefix star ≡ Err BadPrefix
unfolding prefix prefix_of cut_at
prefix-star = refl

pub element-star : element star ≡ Err BadName
unfolding element element_of registry
element-star = refl

-- the pieces of a printed key
lacks_comma : (word : Word) → list_all element_octet word ≡ true → All (λ c. eqb c 44 ≡ false) word
lacks_comma [] h k d low = absurd (omega arith)
lacks_comma (c ∷ cs) h zero d low = ne_eqb c 44 (λ same. false≢true (ap element_octet (sym same) ∙ (and_parts (element_octet c) (list_all element_octet cs) h).0))
lacks_comma (c ∷ cs) h (suc k) d low = lacks_comma cs (and_parts (element_octet c) (list_all element_octet cs) h).1 k d (omega arith)

lack_commas : (es : List Element) → AllByRecursion IsElement es → AllByRecursion (All (λ c. eqb c 44 ≡ false)) (map element_name es)
lack_commas [] h = tt
lack_commas (e ∷ es) h = (lacks_comma (element_name e) (one_word e h.0).1, lack_commas es h.1)

pieces-printed : (before key : List Element) → IsKeyAfter before key → add_pieces before (map element_name key) ≡ Ok (before ++ key)
unfolding add_pieces add_piece
pieces-printed before [] h = ap (λ (k : List Element). Ok k) (sym (append-nil before))
pieces-printed before (e ∷ es) h =
    rw (element-printed e h.0, h.1) (pieces-printed (before ++ e ∷ []) es h.2 ∙ ap (λ (k : List Element). Ok k) (append_assoc before (e ∷ []) es))

pub key-printed : (key : List Element) → IsKey key → 1 ≤ length key → key_of (key_text key) ≡ Ok key
unfolding key_of
key-printed [] h some = absurd (omega arith)
key-printed (e ∷ es) h some = ap (add_pieces []) (split-joined (λ c. eqb c 44) 44 (element_name e) (map element_name es) refl (lack_commas (e ∷ es) h.elements)) ∙ pieces-printed [] (e ∷ es) (step_by_step (e ∷ es) h)
