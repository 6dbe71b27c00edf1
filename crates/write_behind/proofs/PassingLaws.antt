-- What is handed over, and what of it is written.
use Rattle.std.proofs.Common.{◌≡◌, ℕ, List, [], ◌++◌, Option, Some, None, take, drop, refl, sym, ap, ◌∙◌, subst, append_assoc, append-nil, take-append-drop}
use Rattle.std.proofs.Math.Seq.{drop-nil}
use Rattle.std.proofs.KnownBytes.{Appends-trans, Keeps-refl, append_known-grown, append_known-moved}
use Rattle.std.specs.Io.KnownBytes.{Appends, Keeps, append_known}

-- what is handed over more stands behind what was
pub hands_more : (first : Option (List ℕ)) (old new more : List ℕ) → new ≡ old ++ more → Appends (append_known first old) (append_known first new) more
hands_more first old new more e = append_known-grown (append_known first old) first old new more (Keeps-refl (append_known first old)) e

-- octets behind what is held
pub stands_behind : (held : Option (List ℕ)) (more : List ℕ) → Appends held (append_known held more) more
stands_behind None more = tt
stands_behind (Some xs) more = refl

-- a piece of which the writer took the first n octets
pub takes_front : (first held holds : Option (List ℕ)) (before piece : List ℕ) (n : ℕ) → Appends first held before → Appends held holds (take n piece)
    → Appends first (append_known holds (drop n piece)) (before ++ piece)
takes_front first held holds before piece n passed front =
    let joined : (before ++ take n piece) ++ drop n piece ≡ before ++ piece =
    append_assoc before (take n piece) (drop n piece) ∙ ap (λ l. before ++ l) (take-append-drop n piece) in
    subst (Appends first (append_known holds (drop n piece))) joined
    (Appends-trans first holds (append_known holds (drop n piece)) (before ++ take n piece) (drop n piece)
    (Appends-trans first held holds before (take n piece) passed front) (stands_behind holds (drop n piece)))

-- nothing is left
pub leaves_nothing : (first holds : Option (List ℕ)) (before : List ℕ) → Appends first holds before → Appends first (append_known holds []) before
leaves_nothing None holds before p = tt
leaves_nothing (Some xs) None before p = absurd p
leaves_nothing (Some xs) (Some ys) before p = append-nil ys ∙ p

-- what came through the ring, and what is still there, is what was handed over
pub settles : (first holds : Option (List ℕ)) (came there handed : List ℕ) → Appends first holds came → came ++ there ≡ handed
    → Keeps (append_known first handed) (append_known holds there)
settles first holds came there handed passed all = append_known-moved first holds came there handed passed (sym all)

-- nothing is left, and nothing is there
pub settles_whole : (a holds : Option (List ℕ)) → Keeps a (append_known (append_known holds []) []) → Keeps a holds
settles_whole None holds k = tt
settles_whole (Some xs) None k = absurd k
settles_whole (Some xs) (Some ys) k = sym (append-nil ys) ∙ sym (append-nil (ys ++ [])) ∙ k

-- the writer took all that was handed over
pub settles_here : (first holds : Option (List ℕ)) (came there handed piece : List ℕ) (n : ℕ) → Appends first (append_known holds (drop n piece)) came
    → came ++ there ≡ handed → there ≡ [] → piece ≡ [] → Keeps (append_known first handed) holds
settles_here first holds came there handed piece n passed all none empty =
    let p : Appends first (append_known holds []) came =
    subst (λ l. Appends first (append_known holds l) came) (ap (λ (l : List ℕ). drop n l) empty ∙ drop-nil n) passed in
    let all' : came ++ [] ≡ handed = subst (λ l. came ++ l ≡ handed) none all in
    settles_whole (append_known first handed) holds (settles first (append_known holds []) came [] handed p all')

-- nothing was handed over yet
pub begins_empty : (a b : Option (List ℕ)) (handed : List ℕ) → b ≡ a → handed ≡ [] → Keeps a (append_known b handed)
begins_empty None b handed same none = tt
begins_empty (Some xs) b handed same none =
    subst (Keeps (Some xs)) (sym (ap (λ k. append_known k handed) same ∙ ap (λ l. append_known (Some xs) l) none)) (append-nil xs)
