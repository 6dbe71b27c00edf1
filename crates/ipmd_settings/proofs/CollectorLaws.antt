-- The collectors of a table, one after another, and their order.
use Rattle.std.proofs.Common.{◌≡◌, ℕ, List, [], ◌∷◌, ◌++◌, map, Option, Some, None, Ok, option_map, string_bytes, String, Global, nat_cmp, Less, refl, sym, ap, ◌∙◌, append_assoc, append-nil}
use Rattle.std.proofs.lemmas.Option.{same_Some}
use Rattle.std.specs.Cmp.Lexicographic.{slice_cmp}
use Rattle.std.specs.List.{AllByRecursion}
use Rattle.std.specs.List.Sorted.{IsStrictlySortedBy}
use Rattle.std.specs.Map.{keys_of}
use Rattle.std.specs.String.{string_cmp}
use Rattle.sequences.specs.Options.{◌>>=◌}
use Rattle.sequences.proofs.OptionLaws.{bind_some}
use Rattle.sequences.proofs.ResultLaws.{same_Ok}
use Rattle.toml.specs.Data.{as_str}
use Rattle.toml.specs.View.{view, members_view}
use Rattle.toml.proofs.Views.{Entry}
use Rattle.ipmd_settings.specs.declared.fault.Fault.{Fault}
use Rattle.ipmd_settings.specs.declared.key.Key.TheVariants.{Deliver}
use Rattle.ipmd_settings.specs.Asked.{Pair}
use Rattle.ipmd_settings.specs.Results.{value_at_key}
use Rattle.ipmd_settings.specs.Values.{collectors_of, AscendByOctets}

-- the collectors before, and those that are found after them
abbrev pub behind : List Pair → Option (List Pair) → Option (List Pair)
behind before found = option_map (λ more. before ++ more) found

behind-push : (before : List Pair) (p : Pair) (found : Option (List Pair)) → behind before (found >>= λ more. Some (p ∷ more)) ≡ behind (before ++ p ∷ []) found
behind-push before p None = refl
behind-push before p (Some found) = ap Some (sym (append_assoc before (p ∷ []) found))

-- the collectors of a member and of those behind it
abbrev with_others : List ℕ → Option (List Pair) → Option (List ℕ) → Option (List Pair)
with_others name found address = address >>= λ a. found >>= λ more. Some ((name, a) ∷ more)

turn_by : (before : List Pair) (name : List ℕ) (found : Option (List Pair)) (p : Pair) (address : Option (List ℕ)) → value_at_key Deliver (option_map (λ a. (name, a)) address) ≡ Ok p
    → behind (before ++ p ∷ []) found ≡ behind before (with_others name found address)
turn_by before name found p None is = absurd cc
turn_by before name found p (Some a) is = ap (λ (q : Pair). behind (before ++ q ∷ []) found) (sym (same_Ok {E = Fault} (name, a) p is)) ∙ sym (behind-push before (name, a) found)

-- a turn of the loop over the members
pub behind-turn : (before : List Pair) (e : Entry) (rest : List Entry) (p : Pair) → value_at_key Deliver (option_map (λ a. (string_bytes e.0, a)) (as_str (view e.1))) ≡ Ok p
    → behind (before ++ p ∷ []) (collectors_of (members_view rest)) ≡ behind before (collectors_of (members_view (e ∷ rest)))
behind-turn before e rest p is = turn_by before (string_bytes e.0) (collectors_of (members_view rest)) p (as_str (view e.1)) is

-- its end
pub behind-end : (before : List Pair) (rest all : List Entry) → rest ≡ [] → behind before (collectors_of (members_view rest)) ≡ collectors_of (members_view all) → collectors_of (members_view all) ≡ Some before
behind-end before rest all none reading = sym reading ∙ ap (λ es. behind before (collectors_of (members_view es))) none ∙ ap Some (append-nil before)

-- ---- the order

abbrev names : List Pair → List (List ℕ)
names collectors = map (λ p. p.0) collectors

-- the subscribers are the keys
pub collectors_of-names : (es : List Entry) (found : List Pair) → collectors_of (members_view es) ≡ Some found → names found ≡ map string_bytes (keys_of es)
collectors_of-names [] found is = ap names (sym (same_Some _ _ is))
collectors_of-names (e ∷ es) found is =
    let (address, text, after) = bind_some (as_str (view e.1)) (λ a. collectors_of (members_view es) >>= λ more. Some ((string_bytes e.0, a) ∷ more)) found is in
    let (more, others, made) = bind_some (collectors_of (members_view es)) (λ more. Some ((string_bytes e.0, address) ∷ more)) found after in
    ap names (sym (same_Some _ _ made)) ∙ ap (λ ns. string_bytes e.0 ∷ ns) (collectors_of-names es more others)

below-all : (k : String Global) (ks : List (String Global)) → AllByRecursion (λ y. string_cmp k y ≡ Less) ks → AllByRecursion (λ y. slice_cmp nat_cmp (string_bytes k) y ≡ Less) (map string_bytes ks)
below-all k [] h = h
below-all k (x ∷ ks) h = (h.0, below-all k ks h.1)

ascend-texts : (ks : List (String Global)) → IsStrictlySortedBy string_cmp ks → IsStrictlySortedBy (slice_cmp nat_cmp) (map string_bytes ks)
unfolding IsStrictlySortedBy
ascend-texts [] h = h
ascend-texts (k ∷ ks) h = (below-all k ks h.0, ascend-texts ks h.1)

-- the collectors of a map ascend
pub collectors_of-ascend : (es : List Entry) (found : List Pair) → IsStrictlySortedBy string_cmp (keys_of es) → collectors_of (members_view es) ≡ Some found → AscendByOctets found
collectors_of-ascend es found sorted is = rw (collectors_of-names es found is) (ascend-texts (keys_of es) sorted)
