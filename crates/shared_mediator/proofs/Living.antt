-- Who is live when a history goes on.
use Rattle.std.proofs.Common.{◌≡◌, ℕ, ◌+◌, ◌≤◌, Bool, true, false, cond, List, [], ◌∷◌, ◌++◌, map, Option, Some, None, refl, sym, ap, ◌∙◌, arith, append_assoc, append-nil}
use Rattle.std.specs.Prelude.{◌≢◌, ◌&&◌, not, ◌==◌, filter, unwrap_or}
use Rattle.std.specs.List.{flat_map, AllByRecursion}
use Rattle.std.proofs.Math.Bool.{and-true}
use Rattle.std.proofs.lemmas.Bool.{eqb-true, eqb-false, eq-eqb, ne_eqb, and_right}
use Rattle.std.proofs.lemmas.List.Elements.{filter-append}
use Rattle.sequences.proofs.BeforeLaws.{last_of-push}
use Rattle.event_journal.specs.declared.entry.Entry.{Entry}
use Rattle.event_journal.specs.declared.entry.Entry.TheVariants.{Subscribe, Unsubscribe, Cut}
use Rattle.mediator_history.specs.Numbers.{AreDistinct}
use Rattle.mediator_history.specs.Subscriptions.{begins, is_live, subscribed_in, subscriptions_begun}
use Rattle.mediator_history.proofs.HistoryLaws.{flat_map-push}
use Rattle.mediator_history.proofs.LastLaws.{all_of}
use Rattle.mediator_history.proofs.ListFilters.{filter_ext, filter_alike, filter_filter, filter_all, all_filter, distinct_filter}
use Rattle.mediator_state.specs.Standing.{AreNumbered}
use Rattle.mediator_calls.specs.Mediation.{live}

-- an entry that begins no subscription and ends none
pub record IsSilent (e : Entry) : Type 0 where
  pub switches : (sub : ℕ) → begins sub e ≡ None
  pub begins_none : subscribed_in e ≡ []

live_step : (h : List Entry) (e : Entry) → IsSilent e → live (h ++ e ∷ []) ≡ live h
live_step h e silent =
    filter_ext (λ sub. is_live sub (h ++ e ∷ [])) (λ sub. is_live sub h) same (flat_map subscribed_in (h ++ e ∷ []))
    ∙ ap (filter (λ sub. is_live sub h)) (flat_map-push subscribed_in h e ∙ ap (λ (t : List ℕ). flat_map subscribed_in h ++ t) silent.begins_none ∙ append-nil (flat_map subscribed_in h)) where
      same : (sub : ℕ) → is_live sub (h ++ e ∷ []) ≡ is_live sub h
      same sub = last_of-push (begins sub) false h e ∙ ap (λ (o : Option Bool). unwrap_or o (is_live sub h)) (silent.switches sub)

pub live_same : (h more : List Entry) → AllByRecursion IsSilent more → live (h ++ more) ≡ live h
live_same h [] silent = ap live (append-nil h)
live_same h (e ∷ more) silent = ap live (sym (append_assoc h (e ∷ []) more)) ∙ live_same (h ++ e ∷ []) more silent.1 ∙ live_step h e silent.0

-- cuts leave all live, and so does a silent entry behind them
pub cuts_silent : (subs : List ℕ) (e : Entry) → IsSilent e → AllByRecursion IsSilent (map Cut subs ++ e ∷ [])
cuts_silent [] e silent = (silent, tt)
cuts_silent (sub ∷ subs) e silent = (record { switches = λ q. refl; begins_none = refl }, cuts_silent subs e silent)

-- ---- one that begins

begun : (h : List Entry) (n : ℕ) (name : List ℕ) → AllByRecursion (λ s. s ≢ n) (flat_map subscribed_in h) → live (h ++ Subscribe n name ∷ []) ≡ live h ++ n ∷ []
begun h n name new =
    ap (filter on) (flat_map-push subscribed_in h (Subscribe n name))
    ∙ filter-append on (flat_map subscribed_in h) (n ∷ [])
    ∙ ap (λ (t : List ℕ). t ++ filter on (n ∷ [])) (filter_alike on (λ s. is_live s h) (flat_map subscribed_in h) (all_of same (flat_map subscribed_in h) new))
    ∙ ap (λ (t : List ℕ). live h ++ t) (filter_all on (n ∷ []) (here, tt)) where
      on : ℕ → Bool
      on s = is_live s (h ++ Subscribe n name ∷ [])

      here : on n ≡ true
      here = last_of-push (begins n) false h (Subscribe n name) ∙ (rw (eq-eqb n n refl) refl)

      same : (s : ℕ) → s ≢ n → on s ≡ is_live s h
      same s other = last_of-push (begins s) false h (Subscribe n name) ∙ (rw (ne_eqb n s (λ e. other (sym e))) refl)

pub live_begun : (h : List Entry) (n : ℕ) (name : List ℕ) → AreNumbered h → n ≡ subscriptions_begun h + 1 → live (h ++ Subscribe n name ∷ []) ≡ live h ++ n ∷ []
live_begun h n name numbered next = begun h n name (all_of apart (flat_map subscribed_in h) numbered.within) where
  apart : (s : ℕ) → s ≤ subscriptions_begun h → s ≢ n
  apart s low same = absurd (omega (arith, low, same, next))

-- ---- one that ends

pub live_ended : (h : List Entry) (sub : ℕ) → live (h ++ Unsubscribe sub ∷ []) ≡ filter (λ q. not (q == sub)) (live h)
live_ended h sub =
    ap (filter (λ q. is_live q (h ++ Unsubscribe sub ∷ []))) (flat_map-push subscribed_in h (Unsubscribe sub) ∙ append-nil (flat_map subscribed_in h))
    ∙ filter_ext (λ q. is_live q (h ++ Unsubscribe sub ∷ [])) (λ q. is_live q h && not (q == sub)) left (flat_map subscribed_in h)
    ∙ sym (filter_filter (λ q. not (q == sub)) (λ q. is_live q h) (flat_map subscribed_in h)) where
      by_number : (q : ℕ) (same : Bool) → (sub == q) ≡ same → (on : Bool) → (let at : Option Bool = cond same (Some false) None in unwrap_or at on ≡ (on && not (q == sub)))
      by_number q true is on = sym (and_right on (not (q == sub)) (ap not (eq-eqb q sub (sym (eqb-true sub q is)))))
      by_number q false is on = rw (ne_eqb q sub (λ same. eqb-false sub q is (sym same))) (sym (and-true on))

      left : (q : ℕ) → is_live q (h ++ Unsubscribe sub ∷ []) ≡ (is_live q h && not (q == sub))
      left q = last_of-push (begins q) false h (Unsubscribe sub) ∙ by_number q (sub == q) refl (is_live q h)

-- ---- the list of those that are live

pub all_live : (h : List Entry) → AllByRecursion (λ sub. is_live sub h ≡ true) (live h)
all_live h = all_filter (λ sub. is_live sub h) (flat_map subscribed_in h)

pub live_apart : (h : List Entry) → AreNumbered h → AreDistinct (live h)
live_apart h numbered = distinct_filter (λ sub. is_live sub h) (flat_map subscribed_in h) numbered.distinct
