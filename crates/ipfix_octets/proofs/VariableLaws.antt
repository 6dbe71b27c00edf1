-- What is read as a value of variable length is a text of it, and every text of a value is read as it.
use Rattle.std.proofs.Common.{◌≡◌, ℕ, ◌+◌, ◌-◌, ◌<◌, ◌≤◌, Bool, true, false, cond, eqb, ltb, leb, List, [], ◌∷◌, ◌++◌, length, take, drop, Option, Some, None, refl, sym, ap, ◌∙◌, append_assoc, arith, inl, inr, length-append, length-drop, subst}
use Rattle.std.proofs.Math.Seq.{take-add}
use Rattle.std.proofs.lemmas.Bool.{le-ltb, leb-true, le-leb, eqb-true, eqb-false, ne_eqb}
use Rattle.std.proofs.lemmas.List.{take_at, drop_at, length-take-le}
use Rattle.sequences.specs.Octets.{be_value, IsNumberIn, AreOctets}
use Rattle.std.proofs.lemmas.Option.{same_Some}
use Rattle.ipfix_octets.specs.Variable.{IsVarText, value_within, varlen_at}

-- a value that is found lies within the octets, where it was looked for
within_is : (start len : ℕ) (octets : List ℕ) (f : ℕ × ℕ) (fits : Bool) → leb (start + len) (length octets) ≡ fits → cond fits (Some (start, len)) None ≡ Some f → (start + len ≤ length octets) × (f ≡ (start, len))
within_is start len octets f true is e = (leb-true _ _ is, cc)
within_is start len octets f false is e = absurd cc

short_found : (first : ℕ) (rest : List ℕ) → first < 255 → first ≤ length rest → IsVarText (take (1 + first) (first ∷ rest)) (take first rest)
short_found first rest short long =
    let wide = length-take-le first rest long in
    inl (omega (arith, wide), take-add 1 first (first ∷ rest) ∙ ap (λ (n : ℕ). n ∷ take first rest) (sym wide))

long_found : (rest : List ℕ) (len : ℕ) → be_value (take 2 rest) ≡ len → 2 + len ≤ length rest → IsVarText (take (3 + len) (255 ∷ rest)) (take len (drop 2 rest))
long_found rest len is long =
    let two : length (take 2 rest) ≡ 2 = length-take-le 2 rest (omega arith) in
    let wide : length (take len (drop 2 rest)) ≡ len = length-take-le len (drop 2 rest) (omega (arith, length-drop 2 rest)) in
    inr (take 2 rest, record { wide = two; value = is ∙ sym wide }, take-add 3 len (255 ∷ rest))

-- what stands behind the first octet, where it isn't the mark of a long form
at_short : (first : ℕ) (rest : List ℕ) (f : ℕ × ℕ) → first < 256 → eqb first 255 ≡ false → value_within 1 first (first ∷ rest) ≡ Some f → IsVarText (take (f.0 + f.1) (first ∷ rest)) (take f.1 (drop f.0 (first ∷ rest)))
at_short first rest f octet short e =
    let w = within_is 1 first (first ∷ rest) f (leb (1 + first) (length (first ∷ rest))) refl e in
    let below : first < 255 = (let other = eqb-false first 255 short in omega arith) in
    rw w.1 (short_found first rest below (omega (arith, w.0)))

at_long : (rest : List ℕ) (f : ℕ × ℕ) (few : Bool) → ltb (length rest) 2 ≡ few → cond few None (value_within 3 (be_value (take 2 rest)) (255 ∷ rest)) ≡ Some f → IsVarText (take (f.0 + f.1) (255 ∷ rest)) (take f.1 (drop f.0 (255 ∷ rest)))
at_long rest f true is e = absurd cc
at_long rest f false is e =
    let len = be_value (take 2 rest) in
    let w = within_is 3 len (255 ∷ rest) f (leb (3 + len) (length (255 ∷ rest))) refl e in
    rw w.1 (long_found rest len refl (omega (arith, w.0)))

at_first : (first : ℕ) (rest : List ℕ) (f : ℕ × ℕ) (mark : Bool) → first < 256 → eqb first 255 ≡ mark → cond mark (cond (ltb (length rest) 2) None (value_within 3 (be_value (take 2 rest)) (first ∷ rest))) (value_within 1 first (first ∷ rest)) ≡ Some f → IsVarText (take (f.0 + f.1) (first ∷ rest)) (take f.1 (drop f.0 (first ∷ rest)))
at_first first rest f true octet is e =
    let mark = eqb-true first 255 is in
    let P : ℕ → Type 0 = λ n. cond (ltb (length rest) 2) None (value_within 3 (be_value (take 2 rest)) (n ∷ rest)) ≡ Some f → IsVarText (take (f.0 + f.1) (n ∷ rest)) (take f.1 (drop f.0 (n ∷ rest))) in
    subst P (sym mark) (at_long rest f (ltb (length rest) 2) refl) e
at_first first rest f false octet is e = at_short first rest f octet is e

-- what is found is a text of the value
pub varlen_at-found : (octets : List ℕ) → AreOctets octets → (f : ℕ × ℕ) → varlen_at octets ≡ Some f → IsVarText (take (f.0 + f.1) octets) (take f.1 (drop f.0 octets))
unfolding varlen_at
varlen_at-found [] fits f e = absurd cc
varlen_at-found (first ∷ rest) fits f e = at_first first rest f (eqb first 255) (fits 0) refl e

abbrev found_at : ℕ → ℕ → Option (ℕ × ℕ)
found_at start len = Some (start, len)

place_is : (a b len : ℕ) → a ≡ b → found_at a len ≡ found_at b len
place_is a b len e = ap (λ (n : ℕ). found_at n len) e

only_short : (value rest : List ℕ) → length value < 255 → varlen_at ((length value ∷ value) ++ rest) ≡ Some (length (length value ∷ value) - length value, length value)
unfolding varlen_at
only_short value rest short =
    let other : eqb (length value) 255 ≡ false = ne_eqb (length value) 255 (λ e. omega arith) in
    let room : leb (1 + length value) (length ((length value ∷ value) ++ rest)) ≡ true = le-leb _ _ (omega (arith, length-append value rest)) in
    rw (other, room) (place_is 1 (length (length value ∷ value) - length value) (length value) (omega arith))

only_long : (value a rest : List ℕ) → IsNumberIn 2 a (length value) → varlen_at ((255 ∷ (a ++ value)) ++ rest) ≡ Some (length (255 ∷ (a ++ value)) - length value, length value)
unfolding varlen_at
only_long value a rest n =
    let all : length ((a ++ value) ++ rest) ≡ 2 + length value + length rest = omega (arith, length-append (a ++ value) rest, length-append a value, n.wide) in
    let enough : ltb (length ((a ++ value) ++ rest)) 2 ≡ false = le-ltb _ _ (omega arith) in
    let front : take 2 ((a ++ value) ++ rest) ≡ a = ap (take 2) (append_assoc a value rest) ∙ take_at a (value ++ rest) 2 n.wide in
    let announced : be_value (take 2 ((a ++ value) ++ rest)) ≡ length value = ap be_value front ∙ n.value in
    let room : leb (3 + length value) (length (255 ∷ ((a ++ value) ++ rest))) ≡ true = le-leb _ _ (omega arith) in
    rw (enough, announced, room) (place_is 3 (length (255 ∷ (a ++ value)) - length value) (length value) (omega (arith, length-append a value, n.wide)))

-- a text of a value is found, whatever follows
pub varlen_at-only : (text value rest : List ℕ) → IsVarText text value → varlen_at (text ++ rest) ≡ Some (length text - length value, length value)
varlen_at-only text value rest (inl s) =
    rw s.1 (only_short value rest s.0)
varlen_at-only text value rest (inr s) =
    rw s.2 (only_long value s.0 rest s.1)

-- ---- one reading

-- a text ends in its value
pub text_ends : (text value : List ℕ) → IsVarText text value → (head : List ℕ) × (text ≡ head ++ value)
text_ends text value (inl s) = (length value ∷ [], s.1)
text_ends text value (inr s) = (255 ∷ s.0, s.2)

-- what is found in a text, with what follows it, is the value
pub shows_value : (text value rest : List ℕ) → IsVarText text value → take (length value) (drop (length text - length value) (text ++ rest)) ≡ value
shows_value text value rest is =
    let e = text_ends text value is in
    let head = e.0 in
    let start : length text - length value ≡ length head = omega (arith, ap length e.1, length-append head value) in
    let cut : text ++ rest ≡ head ++ (value ++ rest) = ap (λ (t : List ℕ). t ++ rest) e.1 ∙ append_assoc head value rest in
    rw (start, cut, drop_at head (value ++ rest) (length head) refl) (take_at value rest (length value) refl)

shows_text : (text value rest : List ℕ) → IsVarText text value → take ((length text - length value) + length value) (text ++ rest) ≡ text
shows_text text value rest is =
    let e = text_ends text value is in
    let all : (length text - length value) + length value ≡ length text = omega (arith, ap length e.1, length-append e.0 value) in
    rw all (take_at text rest (length text) refl)

-- two texts at the front of the same octets are one, and so are their values
pub one_reading : (octets a b x y v w : List ℕ) → octets ≡ a ++ x → octets ≡ b ++ y → IsVarText a v → IsVarText b w → (a ≡ b) × (v ≡ w)
one_reading octets a b x y v w first second is-a is-b =
    let joined : a ++ x ≡ b ++ y = sym first ∙ second in
    let places : (length a - length v, length v) ≡ (length b - length w, length w) =
    same_Some _ _ (sym (varlen_at-only a v x is-a) ∙ ap varlen_at joined ∙ varlen_at-only b w y is-b) in
    let start : length a - length v ≡ length b - length w = ap (λ (p : ℕ × ℕ). p.0) places in
    let len : length v ≡ length w = ap (λ (p : ℕ × ℕ). p.1) places in (
      sym (shows_text a v x is-a) ∙ rw (start, len, joined) (shows_text b w y is-b),
      sym (shows_value a v x is-a) ∙ rw (start, len, joined) (shows_value b w y is-b),
    )
