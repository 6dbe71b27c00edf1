-- Laws of texts that are joined by a byte, as a list by commas.
use Rattle.std.proofs.Common.{◌≡◌, Bool, true, false, ℕ, zero, suc, ◌+◌, ◌<◌, List, [], ◌∷◌, ◌++◌, length, get_or, take, map, refl, sym, ap, ◌∙◌, arith, append_assoc, length-take-le}
use Rattle.std.specs.List.{All, AllByRecursion, slice_split, join_with_byte}
use Rattle.std.proofs.lemmas.List.{take_more, map_push}
use Rattle.std.proofs.lemmas.List.Splits.{slice_split_at, slice_split_none}

-- the byte that stands before each text but the first
pub byte_before : ℕ → ℕ → List ℕ
byte_before byte zero = []
byte_before byte (suc i) = byte ∷ []

pub byte_before-first : (byte i : ℕ) → i ≡ 0 → byte_before byte i ≡ []
unfolding byte_before
byte_before-first byte zero e = refl
byte_before-first byte (suc i) e = absurd (omega arith)

pub byte_before-later : (byte i : ℕ) → 0 < i → byte_before byte i ≡ byte ∷ []
unfolding byte_before
byte_before-later byte zero h = absurd (omega arith)
byte_before-later byte (suc i) h = refl

-- one more text behind some
pub join_with_byte-push : (byte : ℕ) (text : List ℕ) (texts : List (List ℕ)) (last : List ℕ) → join_with_byte byte ((text ∷ texts) ++ last ∷ []) ≡ join_with_byte byte (text ∷ texts) ++ byte ∷ last
join_with_byte-push byte text [] last = refl
join_with_byte-push byte text (next ∷ texts) last = ap (λ t. text ++ byte ∷ t) (join_with_byte-push byte next texts last) ∙ sym (append_assoc text (byte ∷ join_with_byte byte (next ∷ texts)) (byte ∷ last))

-- one more item behind those whose texts are joined
joined_push : {A : Type 0} (byte : ℕ) (text : A → List ℕ) (xs : List A) (x : A) → join_with_byte byte (map text (xs ++ x ∷ [])) ≡ join_with_byte byte (map text xs) ++ (byte_before byte (length xs) ++ text x)
unfolding byte_before
joined_push byte text [] x = refl
joined_push byte text (y ∷ ys) x = ap (λ ts. join_with_byte byte (text y ∷ ts)) (map_push text ys x) ∙ join_with_byte-push byte (text y) (map text ys) (text x)

-- a turn of a loop that writes the texts of items
pub joined_more : {A : Type 0} (byte : ℕ) (text : A → List ℕ) (xs : List A) (i : ℕ) (d : A) → i < length xs → join_with_byte byte (map text (take (i + 1) xs)) ≡ join_with_byte byte (map text (take i xs)) ++ (byte_before byte i ++ text (get_or xs i d))
joined_more byte text xs i d low =
    let count : length (take i xs) ≡ i = length-take-le i xs (omega arith) in
    ap (λ ys. join_with_byte byte (map text ys)) (take_more xs i d low) ∙ joined_push byte text (take i xs) (get_or xs i d)
    ∙ ap (λ n. join_with_byte byte (map text (take i xs)) ++ (byte_before byte n ++ text (get_or xs i d))) count

-- the same of an item that was read at its place
pub joined_read : {A : Type 0} (byte : ℕ) (text : A → List ℕ) (xs : List A) (i : ℕ) (x : A) → i < length xs → x ≡ get_or xs i x → join_with_byte byte (map text (take (i + 1) xs)) ≡ join_with_byte byte (map text (take i xs)) ++ (byte_before byte i ++ text x)
joined_read byte text xs i x low is = joined_more byte text xs i x low ∙ ap (λ y. join_with_byte byte (map text (take i xs)) ++ (byte_before byte i ++ text y)) (sym is)

-- texts come back from their join where the byte parts and none of their octets does
pub split-joined : (parts : ℕ → Bool) (byte : ℕ) (text : List ℕ) (texts : List (List ℕ)) → parts byte ≡ true → AllByRecursion (All (λ c. parts c ≡ false)) (text ∷ texts) → slice_split parts (join_with_byte byte (text ∷ texts)) ≡ text ∷ texts
split-joined parts byte text [] is h = slice_split_none parts text h.0
split-joined parts byte text (next ∷ texts) is h =
    slice_split_at parts text byte (join_with_byte byte (next ∷ texts)) h.0 is ∙ ap (λ ts. text ∷ ts) (split-joined parts byte next texts is h.1)
