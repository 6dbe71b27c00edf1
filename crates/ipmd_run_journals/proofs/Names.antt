-- The names of runs' files.
use Rattle.std.proofs.Common.{◌≡◌, ℕ, ◌+◌, ◌≤◌, ◌<◌, ◌^◌, List, [], ◌∷◌, ◌++◌, length, take, get_or, true, refl, sym, ap, ◌∙◌, subst, arith}
use Rattle.std.specs.Prelude.{Vec}
use Rattle.std.specs.declared.alloc.Global.{Global}
use Rattle.std.specs.Fmt.{decimal}
use Rattle.std.specs.Str.{bytes_eq}
use Rattle.std.proofs.lemmas.List.{length-append, take_more, take_all, take-append-le}
use Rattle.std.proofs.lemmas.Slice.Eq.{bytes_eq-Decides}
use Rattle.ipmd_run_journals.specs.Numbering.{file_name, IsAbove}

-- what is said of a name and a number
abbrev pub AboveOne : List ℕ → ℕ → Vec ℕ Global → Type 0
AboveOne base next name = (n : ℕ) → n < 2 ^ 32 → name.items ≡ file_name base n → n < next

above_more : (base : List ℕ) (names : List (Vec ℕ Global)) (low high : ℕ) → low ≤ high → IsAbove base names low → IsAbove base names high
above_more base [] low high le all = tt
above_more base (name ∷ names) low high le all = ((λ n few is. omega (arith, le, all.0 n few is)), above_more base names low high le all.1)

above_append : (base : List ℕ) (names more : List (Vec ℕ Global)) (next : ℕ) → IsAbove base names next → IsAbove base more next → IsAbove base (names ++ more) next
above_append base [] more next all others = others
above_append base (name ∷ names) more next all others = (all.0, above_append base names more next all.1 others)

-- a name more, which is none of a run's file or has a lower number
pub above : (base : List ℕ) (names : List (Vec ℕ Global)) (i : ℕ) (name : Vec ℕ Global) (low high : ℕ) → i < length names → name ≡ get_or names i name → low ≤ high
    → IsAbove base (take i names) low → AboveOne base high name → IsAbove base (take (i + 1) names) high
above base names i name low high inside is le all one =
    subst (λ (xs : List (Vec ℕ Global)). IsAbove base xs high) (sym (take_more names i name inside ∙ ap (λ (y : Vec ℕ Global). take i names ++ y ∷ []) (sym is)))
    (above_append base (take i names) (name ∷ []) high (above_more base (take i names) low high le all) (one, tt))

-- ---- a name that is one of a run's file

-- is longer than what it begins with
pub longer : (base name : List ℕ) (n : ℕ) → name ≡ file_name base n → length base < length name
longer base name n is = omega (arith, ap length is, length-append base (46 ∷ decimal n))

-- begins so
pub begins : (base name : List ℕ) (n : ℕ) → name ≡ file_name base n → bytes_eq (take (length base) name) base ≡ true
begins base name n is = (bytes_eq-Decides (take (length base) name) base).1 (ap (take (length base)) is ∙ take-append-le (length base) base (46 ∷ decimal n) (omega arith) ∙ take_all (length base) base (omega arith))

-- and has a full stop then
pub dotted : (base name : List ℕ) (n : ℕ) → name ≡ file_name base n → get_or name (length base) 0 ≡ 46
dotted [] name n is = ap (λ (t : List ℕ). get_or t 0 0) is
dotted (b ∷ base) name n is = ap (λ (t : List ℕ). get_or t (length (b ∷ base)) 0) is ∙ dotted base (file_name base n) n refl
