-- The first share without a record.
use Rattle.std.proofs.Common.{◌≡◌, ℕ, ◌+◌, ◌<◌, ◌≤◌, true, false, List, [], ◌∷◌, length, map, take, get_or, Option, Some, None, sym, ap, ◌∙◌, subst}
use Rattle.std.specs.Prelude.{◌≢◌, ◌==◌, slice_get, IsSomeAnd}
use Rattle.std.specs.Option.{option_map}
use Rattle.std.specs.List.{AllByRecursion}
use Rattle.std.proofs.lemmas.Bool.{eqb-true, eqb-false}
use Rattle.std.proofs.lemmas.List.{map-append, take_more, take-map, take_all, nil_from_length}
use Rattle.std.proofs.lemmas.Option.{slice_get-map, slice_get-get_or}
use Rattle.sequences.proofs.ListLaws.{AllByRecursion-append}
use Rattle.ipfix_template.specs.DataRecord.{DataRecord}
use Rattle.mediator_tables.specs.SubscriptionTable.{shown}
use Rattle.mediator_tables.specs.declared.share.Share.{Share}
use Rattle.history_verify.specs.Sharing.{IsFirstEmptyShare}

abbrev pub HasSome : ℕ × List DataRecord → Type 0
HasSome s = s.1 ≢ []

-- the share at a place has a record
pub one_has_some : (shares : List Share) (place : ℕ) (share other : Share) → place < length shares → share ≡ get_or shares place other → (length share.given == 0) ≡ false
    → AllByRecursion HasSome (map shown (take place shares)) → AllByRecursion HasSome (map shown (take (place + 1) shares))
one_has_some shares place share other within is some before =
    subst (AllByRecursion HasSome)
    (sym (ap (map shown) (take_more shares place other within) ∙ map-append shown (take place shares) (get_or shares place other ∷ [])))
    (AllByRecursion-append HasSome (map shown (take place shares)) (shown (get_or shares place other) ∷ []) before (subst (λ (s : Share). HasSome (shown s)) is has, tt))
  where
    has : share.given ≢ []
    has none = eqb-false (length share.given) 0 some (ap (λ (l : List DataRecord). length l) none)

-- it has none
pub one_is_empty : (shares : List Share) (place : ℕ) (share other : Share) → place < length shares → share ≡ get_or shares place other → (length share.given == 0) ≡ true
    → AllByRecursion HasSome (map shown (take place shares)) → IsFirstEmptyShare (map shown shares) (Some place)
one_is_empty shares place share other within is none before =
    (subst (AllByRecursion HasSome) (sym (take-map shown place shares)) before, subst (λ (o : Option (ℕ × List DataRecord)). IsSomeAnd o (λ s. s.1 ≡ [])) (sym found) empty)
  where
    empty : share.given ≡ []
    empty = nil_from_length share.given (eqb-true (length share.given) 0 none)

    found : slice_get (map shown shares) place ≡ Some (shown share)
    found = slice_get-map shown shares place ∙ ap (option_map shown) (slice_get-get_or shares place other within) ∙ ap (λ (s : Share). Some (shown s)) (sym is)

-- each has some
pub none_is_empty : (shares : List Share) (place : ℕ) → length shares ≤ place → AllByRecursion HasSome (map shown (take place shares)) → IsFirstEmptyShare (map shown shares) None
none_is_empty shares place past all = subst (λ (l : List Share). AllByRecursion HasSome (map shown l)) (take_all place shares past) all
