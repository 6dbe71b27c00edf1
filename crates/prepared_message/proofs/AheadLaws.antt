-- Runs that are compared, one text after another.
use Rattle.std.proofs.Common.{◌≡◌, ℕ, ◌+◌, ◌<◌, ◌≤◌, List, [], ◌∷◌, ◌++◌, length, take, get_or, slice_index_or, refl, sym, ap, ◌∙◌, subst, arith}
use Rattle.std.proofs.lemmas.List.{take_more, take_all}
use Rattle.ipfix_records.specs.Runs.{RunOf}

-- a text more
pub more_texts : (xs ys : List (List ℕ)) (i : ℕ) (text other : List ℕ) → i < length xs → i < length ys → text ≡ slice_index_or xs i [] → other ≡ slice_index_or ys i [] → text ≡ other → take i xs ≡ take i ys
    → take (i + 1) xs ≡ take (i + 1) ys
more_texts xs ys i text other low low_too is is_too same before =
    take_more xs i [] low ∙ ap (λ t. t ++ get_or xs i [] ∷ []) before ∙ ap (λ t. take i ys ++ t ∷ []) (sym is ∙ same ∙ is_too) ∙ sym (take_more ys i [] low_too)

-- all texts
pub same_texts : (xs ys : List (List ℕ)) (i : ℕ) → length xs ≤ i → length ys ≤ i → take i xs ≡ take i ys → xs ≡ ys
same_texts xs ys i all all_too same = sym (take_all i xs all) ∙ same ∙ take_all i ys all_too

pub same_run : (run other : RunOf) → run.template ≡ other.template → run.texts ≡ other.texts → run ≡ other
same_run run other template texts =
    ap (λ t. record { template = t; texts = run.texts }) template ∙ ap (λ ts. record { template = other.template; texts = ts }) texts
