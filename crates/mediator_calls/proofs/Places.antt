-- The places that a mediator's state keeps, as its callers see them.
use Rattle.std.proofs.Common.{◌≡◌, ℕ, ◌≤◌, Bool, true, false, cond, List, [], ◌∷◌, ◌++◌, length, map, drop, Option, Some, None, refl, sym, ap, ◌∙◌, subst, arith}
use Rattle.std.specs.Prelude.{◌||◌, ◌&&◌, ◌==◌, filter}
use Rattle.std.specs.List.{flat_map, AllByRecursion}
use Rattle.std.proofs.lemmas.Bool.{eqb-true, eq-eqb, or_right}
use Rattle.std.proofs.lemmas.Grind.{flat_map-append}
use Rattle.std.proofs.lemmas.List.Concat.{flat_map-cons}
use Rattle.subscriber_stream.specs.declared.limits.StreamLimits.{StreamLimits}
use Rattle.subscriber_stream.specs.Parts.{Part, parts, records_of_parts}
use Rattle.event_journal.specs.declared.entry.Entry.{Entry}
use Rattle.event_journal.specs.declared.entry.Entry.TheVariants.{Subscribe, Cut}
use Rattle.mediator_history.specs.Numbers.{is_in}
use Rattle.mediator_history.specs.Subscriptions.{is_live, is_served, subscribed_in, served}
use Rattle.mediator_history.specs.LastEntries.{IsBegun}
use Rattle.mediator_history.specs.Disclosed.{disclosed}
use Rattle.mediator_history.specs.Cuts.{is_cut_by, cuts_before}
use Rattle.mediator_history.proofs.LastLaws.{all_of}
use Rattle.mediator_history.proofs.SinceLaws.{live-found}
use Rattle.mediator_history.proofs.EntryLaws.{all_served, served_is_live}
use Rattle.mediator_history.proofs.ListFilters.{filter_alike, is_in-filter, is_in-append}
use Rattle.mediator_tables.specs.declared.subscription.Subscription.{Subscription}
use Rattle.mediator_tables.specs.SubscriptionTable.{at}
use Rattle.mediator_state.specs.declared.engine.Engine.{Engine}
use Rattle.mediator_state.specs.Standing.{place, IsLiveAs, Stands}
use Rattle.mediator_state.specs.Seen.{place_in, handed_place, waiting_in, waiting_of}
use Rattle.mediator_calls.specs.Mediation.{Place, Mediation, live, reached_among, place_at, waiting_at, stream_limits}
use Rattle.mediator_calls.specs.View.{KeptState, engine_place, view_of, StandsForJournal}

-- ---- who is live

is_begun : (sub : ℕ) (h : List Entry) → is_live sub h ≡ true → is_in sub (flat_map subscribed_in h) ≡ true
is_begun sub h on = begun (live-found sub h on) where
  begun : IsBegun sub h → is_in sub (flat_map subscribed_in h) ≡ true
  begun is =
      let here : is_in sub (sub ∷ flat_map subscribed_in is.after) ≡ true = rw (eq-eqb sub sub refl) refl in
      ap (λ t. is_in sub (flat_map subscribed_in t)) is.history_is
      ∙ ap (is_in sub) (flat_map-append subscribed_in is.before (Subscribe sub is.name ∷ is.after) ∙ ap (λ t. flat_map subscribed_in is.before ++ t) (flat_map-cons subscribed_in (Subscribe sub is.name) is.after))
      ∙ is_in-append sub (flat_map subscribed_in is.before) (sub ∷ flat_map subscribed_in is.after)
      ∙ or_right (is_in sub (flat_map subscribed_in is.before)) (is_in sub (sub ∷ flat_map subscribed_in is.after)) here

pub is_in-live : (sub : ℕ) (h : List Entry) → is_in sub (live h) ≡ is_live sub h
is_in-live sub h = is_in-filter (λ s. is_live s h) sub (flat_map subscribed_in h) ∙ by_test (is_live sub h) refl where
  by_test : (on : Bool) → is_live sub h ≡ on → (on && is_in sub (flat_map subscribed_in h)) ≡ on
  by_test true is = is_begun sub h is
  by_test false is = refl

-- ---- a place by its number

reached_in : {Q : Type 0} (e : Engine Q) (sub : ℕ) (subs : List ℕ) → reached_among sub (map (engine_place e) subs) ≡ cond (is_in sub subs) (handed_place e sub) 0
reached_in e sub [] = refl
reached_in e sub (x ∷ xs) = by_number (x == sub) refl (reached_in e sub xs) where
  by_number : (same : Bool) → (x == sub) ≡ same → reached_among sub (map (engine_place e) xs) ≡ cond (is_in sub xs) (handed_place e sub) 0 → cond same (handed_place e x) (reached_among sub (map (engine_place e) xs)) ≡ cond (same || is_in sub xs) (handed_place e sub) 0
  by_number true is others = ap (handed_place e) (eqb-true x sub is)
  by_number false is others = others

-- what isn't live has no place
unplaced : (h : List Entry) (limits : StreamLimits) (sub : ℕ) (o : Option Subscription) → IsLiveAs h limits sub o → is_live sub h ≡ false → place_in o ≡ 0
unplaced h limits sub None is off = refl
unplaced h limits sub (Some s) is off = let on : is_live sub h ≡ true = is.live in absurd cc

pub place_is : (s : KeptState) → StandsForJournal s → (sub : ℕ) → place_at (view_of s) sub ≡ handed_place s.engine sub
place_is s stands sub =
    reached_in s.engine sub (live s.chronicle.entries)
    ∙ ap (λ (b : Bool). cond b (handed_place s.engine sub) 0) (is_in-live sub s.chronicle.entries)
    ∙ by_test (is_live sub s.chronicle.entries) refl where
      by_test : (on : Bool) → is_live sub s.chronicle.entries ≡ on → cond on (handed_place s.engine sub) 0 ≡ handed_place s.engine sub
      by_test true is = refl
      by_test false is = sym (unplaced s.chronicle.entries s.engine.limits sub (at s.engine.subscriptions sub) (stands.stands.subscriptions sub) is)

pub unplaced_at : (s : KeptState) → StandsForJournal s → (sub : ℕ) → is_live sub s.chronicle.entries ≡ false → place_at (view_of s) sub ≡ 0
unplaced_at s stands sub off = place_is s stands sub ∙ unplaced s.chronicle.entries s.engine.limits sub (at s.engine.subscriptions sub) (stands.stands.subscriptions sub) off

-- no place is past the end
ends : (h : List Entry) (limits : StreamLimits) (sub : ℕ) (o : Option Subscription) → IsLiveAs h limits sub o → place_in o ≤ length (parts (disclosed sub h))
ends h limits sub None is = omega arith
ends h limits sub (Some s) is = is.stream.within

pub within : (s : KeptState) → StandsForJournal s → (sub : ℕ) → place_at (view_of s) sub ≤ length (parts (disclosed sub s.chronicle.entries))
within s stands sub = omega (arith, place_is s stands sub, ends s.chronicle.entries s.engine.limits sub (at s.engine.subscriptions sub) (stands.stands.subscriptions sub))

-- ---- how many records wait

waits : (h : List Entry) (limits : StreamLimits) (sub : ℕ) (o : Option Subscription) → IsLiveAs h limits sub o → is_live sub h ≡ true → waiting_in o ≡ length (records_of_parts (drop (place_in o) (parts (disclosed sub h))))
waits h limits sub None is on = absurd cc
waits h limits sub (Some s) is on = ap (λ (ps : List Part). length (records_of_parts ps)) is.stream.waiting

pub waiting_is : (s : KeptState) → StandsForJournal s → (sub : ℕ) → is_live sub s.chronicle.entries ≡ true → waiting_of s.engine sub ≡ waiting_at (view_of s) sub
waiting_is s stands sub on =
    waits s.chronicle.entries s.engine.limits sub (at s.engine.subscriptions sub) (stands.stands.subscriptions sub) on
    ∙ ap (λ (p : ℕ). length (records_of_parts (drop p (parts (disclosed sub s.chronicle.entries))))) (sym (place_is s stands sub))

-- the cuts before an entry are the same by what the state keeps and by what its callers see
pub cuts_are : (s : KeptState) → StandsForJournal s → (entry : Entry) → cuts_before s.engine.limits s.chronicle.entries entry (waiting_of s.engine) ≡ cuts_before (stream_limits (view_of s).limits) s.chronicle.entries entry (waiting_at (view_of s))
cuts_are s stands entry = ap (λ (subs : List ℕ). map Cut subs) (filter_alike by_state by_view (served s.chronicle.entries) (all_of alike (served s.chronicle.entries) (all_served s.chronicle.entries))) where
  by_state : ℕ → Bool
  by_state sub = is_cut_by s.engine.limits s.chronicle.entries entry (waiting_of s.engine) sub

  by_view : ℕ → Bool
  by_view sub = is_cut_by (stream_limits (view_of s).limits) s.chronicle.entries entry (waiting_at (view_of s)) sub

  alike : (sub : ℕ) → is_served sub s.chronicle.entries ≡ true → by_state sub ≡ by_view sub
  alike sub on = rw (waiting_is s stands sub (served_is_live sub s.chronicle.entries on)) refl

-- ---- the same places

map_same : {A B : Type 0} (f g : A → B) → ((x : A) → f x ≡ g x) → (xs : List A) → map f xs ≡ map g xs
map_same f g same [] = refl
map_same {A} {B} f g same (x ∷ xs) = ap (λ (y : B). y ∷ map f xs) (same x) ∙ ap (λ (ys : List B). g x ∷ ys) (map_same f g same xs)

pub places_same : (s t : KeptState) → t.chronicle.entries ≡ s.chronicle.entries → ((sub : ℕ) → handed_place t.engine sub ≡ handed_place s.engine sub) → (view_of t).places ≡ (view_of s).places
places_same s t same places =
    ap (λ (h : List Entry). map (engine_place t.engine) (live h)) same
    ∙ map_same (engine_place t.engine) (engine_place s.engine) each (live s.chronicle.entries) where
      each : (sub : ℕ) → engine_place t.engine sub ≡ engine_place s.engine sub
      each sub = let at_place : ℕ → Place = λ n. record { sub = sub; reached = n } in ap at_place (places sub)
