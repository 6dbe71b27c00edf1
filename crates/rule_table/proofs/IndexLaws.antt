-- Entries, and where those of a mark stand among ascending ones.
use Rattle.std.proofs.Common.{◌≡◌, ◌⊎◌, ℕ, ◌+◌, ◌%◌, ◌^◌, ◌-◌, ◌<◌, ◌≤◌, List, [], ◌∷◌, ◌++◌, length, get_or, take, drop, map, Some, ap, sym, ◌∙◌, subst, arith, inl, inr}
use Rattle.std.specs.Prelude.{slice_get}
use Rattle.std.specs.List.{Contains}
use Rattle.std.specs.List.Sorted.{IsPermutation}
use Rattle.std.proofs.lemmas.Bool.{cases_lt}
use Rattle.std.proofs.lemmas.Option.{same_Some, slice_get_within}
use Rattle.std.proofs.lemmas.List.{get_or_default, get_or-take, get_or-drop, length-take-le, length-drop}
use Rattle.policy_text.specs.declared.rule.Rule.{Rule}
use Rattle.rule_table.specs.Marks.{marks_of}
use Rattle.rule_table.specs.Index.{entry, EntryStands, StandEach}
use Rattle.std.proofs.lemmas.List.Elements.{Contains-append_left, Contains-append_right, Contains-push}
use Rattle.std.proofs.lemmas.List.Sorted.{Contains-permutation}
use Rattle.rule_table.proofs.Members.{mapped}

-- ---- each rule stands under one of its marks

-- so does each before a place
abbrev pub StandBefore : List Rule → List ℕ → ℕ → Type 0
StandBefore rules entries n = (place : ℕ) (rule : Rule) → place < n → slice_get rules place ≡ Some rule → EntryStands entries place rule

standing_at : (rules : List Rule) (old : List ℕ) (mark n : ℕ) (item : Rule) (place : ℕ) (rule : Rule) → StandBefore rules old n → slice_get rules n ≡ Some item → Contains (marks_of item) mark
    → place < n + 1 → slice_get rules place ≡ Some rule → (place < n) ⊎ (n ≤ place) → EntryStands (old ++ entry mark n ∷ []) place rule
standing_at rules old mark n item place rule stand this own l at (inl less) =
    let s : EntryStands old place rule = stand place rule less at in
    record { mark = s.mark; own = s.own; there = Contains-append_left old (entry mark n ∷ []) (entry s.mark place) s.there }
standing_at rules old mark n item place rule stand this own l at (inr more) =
    let here : n ≡ place = omega (arith, l, more) in
    let same : item ≡ rule = same_Some item rule (sym this ∙ ap (slice_get rules) here ∙ at) in
    let P : Rule → Type 0 = λ one. Contains (marks_of one) mark in
    let Q : ℕ → Type 0 = λ k. Contains (old ++ entry mark n ∷ []) (entry mark k) in
    record { mark = mark; own = subst P same own; there = subst Q here (Contains-push old (entry mark n)) }

pub standing_more : (rules : List Rule) (old new : List ℕ) (mark n added : ℕ) (item : Rule) → new ≡ old ++ added ∷ [] → added ≡ entry mark n → StandBefore rules old n → slice_get rules n ≡ Some item
    → Contains (marks_of item) mark → StandBefore rules new (n + 1)
standing_more rules old new mark n added item grown is stand this own place rule l at =
    let P : List ℕ → Type 0 = λ entries. EntryStands entries place rule in
    subst P (ap (λ e. old ++ e ∷ []) (sym is) ∙ sym grown) (standing_at rules old mark n item place rule stand this own l at (cases_lt place n))

pub standing_all : (rules : List Rule) (entries : List ℕ) (n : ℕ) → length rules ≤ n → StandBefore rules entries n → StandEach rules entries
standing_all rules entries n all stand place rule at =
    let within = slice_get_within rules place rule at in
    stand place rule (omega (arith, within, all)) at

pub standing_sorted : (rules : List Rule) (listed sorted : List ℕ) → IsPermutation listed sorted → StandEach rules listed → StandEach rules sorted
standing_sorted rules listed sorted same stand place rule at =
    let s : EntryStands listed place rule = stand place rule at in
    record { mark = s.mark; own = s.own; there = Contains-permutation listed sorted (entry s.mark place) same s.there }

-- ---- the place behind a mark

pub place_of : (mark place : ℕ) → place < 4096 → entry mark place % 2 ^ 64 ≡ place
place_of mark place few = omega arith

-- ---- what isn't below a bound, and what is

from_bound_at : (entries : List ℕ) (n bound e k : ℕ) → ((i : ℕ) → i < n → get_or entries i 0 < bound) → bound ≤ e → k < length entries → get_or entries k e ≡ e
    → (k < n) ⊎ (n ≤ k) → Contains (drop n entries) e
from_bound_at entries n bound e k below up l at (inl less) =
    let same = get_or_default entries k 0 e l in
    absurd (omega (arith, below k less, same, at))
from_bound_at entries n bound e k below up l at (inr more) =
    let long : k - n < length (drop n entries) = rw length-drop (omega arith) in
    let place : n + (k - n) ≡ k = omega arith in
    (k - n, long, get_or-drop n entries (k - n) e ∙ ap (λ i. get_or entries i e) place ∙ at)

pub from_bound : (entries : List ℕ) (n bound e : ℕ) → ((i : ℕ) → i < n → get_or entries i 0 < bound) → bound ≤ e → Contains entries e → Contains (drop n entries) e
from_bound entries n bound e below up (k, l, at) = from_bound_at entries n bound e k below up l at (cases_lt k n)

to_bound_at : (entries : List ℕ) (n bound e k : ℕ) → n ≤ length entries → ((i : ℕ) → n ≤ i → i < length entries → bound ≤ get_or entries i 0) → e < bound → k < length entries
    → get_or entries k e ≡ e → (k < n) ⊎ (n ≤ k) → Contains (take n entries) e
to_bound_at entries n bound e k within above down l at (inl less) =
    let long : k < length (take n entries) = rw (length-take-le n entries within) less in
    (k, long, get_or-take n entries k e less ∙ at)
to_bound_at entries n bound e k within above down l at (inr more) =
    let same = get_or_default entries k 0 e l in
    absurd (omega (arith, above k more l, same, at))

pub to_bound : (entries : List ℕ) (n bound e : ℕ) → n ≤ length entries → ((i : ℕ) → n ≤ i → i < length entries → bound ≤ get_or entries i 0) → e < bound → Contains entries e → Contains (take n entries) e
to_bound entries n bound e within above down (k, l, at) = to_bound_at entries n bound e k within above down l at (cases_lt k n)

-- ---- the places under the marks so far

-- each place that stands under one of the first n marks is among these
abbrev pub HoldsUnder : List ℕ → List ℕ → ℕ → List ℕ → Type 0
HoldsUnder entries marks n places = (k place : ℕ) → k < n → place < 4096 → Contains entries (entry (get_or marks k 0) place) → Contains places place

more_at : (entries marks found old : List ℕ) (i k place : ℕ) → HoldsUnder entries marks i old
    → ((p : ℕ) → p < 4096 → Contains entries (entry (get_or marks i 0) p) → Contains found (entry (get_or marks i 0) p))
    → k < i + 1 → place < 4096 → Contains entries (entry (get_or marks k 0) place) → (k < i) ⊎ (i ≤ k) → Contains (old ++ map (λ e. e % 2 ^ 64) found) place
more_at entries marks found old i k place holds finds l few there (inl less) = Contains-append_left old (map (λ e. e % 2 ^ 64) found) place (holds k place less few there)
more_at entries marks found old i k place holds finds l few there (inr more) =
    let same : k ≡ i = omega arith in
    let P : ℕ → Type 0 = λ n. Contains entries (entry (get_or marks n 0) place) in
    let e = entry (get_or marks i 0) place in
    let Q : ℕ → Type 0 = λ n. Contains (map (λ f. f % 2 ^ 64) found) n in
    Contains-append_right old (map (λ f. f % 2 ^ 64) found) place (subst Q (place_of (get_or marks i 0) place few) (mapped (λ f. f % 2 ^ 64) found e (finds place few (subst P same there))))

pub holds_more : (entries marks found old new : List ℕ) (i : ℕ) → new ≡ old ++ map (λ e. e % 2 ^ 64) found → HoldsUnder entries marks i old
    → ((p : ℕ) → p < 4096 → Contains entries (entry (get_or marks i 0) p) → Contains found (entry (get_or marks i 0) p)) → HoldsUnder entries marks (i + 1) new
holds_more entries marks found old new i grown holds finds k place l few there =
    let P : List ℕ → Type 0 = λ ps. Contains ps place in
    subst P (sym grown) (more_at entries marks found old i k place holds finds l few there (cases_lt k i))

pub holds_all : (entries marks places : List ℕ) (n : ℕ) → length marks ≤ n → HoldsUnder entries marks n places
    → (mark place : ℕ) → place < 4096 → Contains marks mark → Contains entries (entry mark place) → Contains places place
holds_all entries marks places n all holds mark place few (k, l, at) there =
    let same : mark ≡ get_or marks k 0 = sym at ∙ get_or_default marks k mark 0 l in
    let P : ℕ → Type 0 = λ m. Contains entries (entry m place) in
    holds k place (omega arith) few (subst P same there)
