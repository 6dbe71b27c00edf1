-- The cuts that a mediator makes may stand where they do, and the entry behind them bears them out.
use Rattle.std.proofs.Common.{◌≡◌, ℕ, ◌<◌, true, false, List, [], ◌∷◌, ◌++◌, refl, sym, ◌∙◌, subst, arith, append_assoc}
use Rattle.std.specs.Prelude.{◌≢◌, ◌==◌, filter}
use Rattle.std.specs.List.{flat_map, AllByRecursion}
use Rattle.std.proofs.lemmas.Bool.{ne_eqb}
use Rattle.sequences.proofs.BeforeLaws.{last_of-push}
use Rattle.ipfix_template.specs.DataRecord.{DataRecord}
use Rattle.subscriber_stream.specs.declared.limits.StreamLimits.{StreamLimits}
use Rattle.event_journal.specs.declared.entry.Entry.{Entry}
use Rattle.event_journal.specs.declared.entry.Entry.TheVariants.{Cut}
use Rattle.mediator_history.specs.Subscriptions.{switched, is_served, subscribed_in, served}
use Rattle.mediator_history.specs.Disclosed.{given_at}
use Rattle.mediator_history.specs.Cuts.{overflows, is_cut_by, cuts_before, after_cuts}
use Rattle.mediator_history.proofs.ListFilters.{all_filter, all_of_filter}
use Rattle.mediator_state.specs.Ascending.{Ascend}
use Rattle.history_verify.specs.Legal.{IsAccepted, number_cut, last_cut}
use Rattle.history_verify.specs.Standing.{MayCutAll, IsSettled}
use Rattle.history_verify.proofs.LegalLaws.{settled_none, settled_more, settled_cuts}
use Rattle.history_verify.proofs.CutsPast.{list-cuts, accepted_behind}
use Rattle.mediator_legal_runs.proofs.NumberLaws.{AreNumbers, IsNumbered, numbered_first, numbered_more, ascend_above}

-- ---- cuts may stand in a row

-- who is another than the one that is cut is served still
stays_served : (c s : ℕ) (g : List Entry) → c < s → is_served s g ≡ true → is_served s (g ++ Cut c ∷ []) ≡ true
stays_served c s g above on =
    let other : (c == s) ≡ false = ne_eqb c s (λ same. absurd (omega (arith, above, same))) in
    last_of-push (switched s) false g (Cut c) ∙ (rw other on)

all_stay : (c : ℕ) (g : List Entry) (subs : List ℕ) → AllByRecursion (λ s. c < s) subs → AllByRecursion (λ s. is_served s g ≡ true) subs → AllByRecursion (λ s. is_served s (g ++ Cut c ∷ []) ≡ true) subs
all_stay c g [] above on = tt
all_stay c g (s ∷ subs) above on = (stays_served c s g above.0 on.0, all_stay c g subs above.1 on.1)

may_cut_all : (g : List Entry) (subs : List ℕ) → AllByRecursion (λ s. is_served s g ≡ true) subs → Ascend (last_cut g ∷ subs) → MayCutAll g subs
may_cut_all g [] on up = tt
may_cut_all g (c ∷ cs) on up = (
  record { served = on.0; above = up.0.0 },
  may_cut_all (g ++ Cut c ∷ []) cs (all_stay c g cs up.1.0 on.1) (subst (λ (n : ℕ). Ascend (n ∷ cs)) (sym (last_of-push number_cut 0 g (Cut c))) up.1),
)

-- ---- what an entry cuts, it would give records to

some_given : (limits : StreamLimits) (listed : List DataRecord) (waiting : ℕ) (more : List DataRecord) → overflows limits listed waiting more ≡ true → more ≢ []
some_given limits listed waiting [] over none = absurd cc
some_given limits listed waiting (r ∷ more) over none = absurd cc

all_given : (limits : StreamLimits) (h : List Entry) (e : Entry) (waiting : ℕ → ℕ) (subs : List ℕ) → AllByRecursion (λ s. is_cut_by limits h e waiting s ≡ true) subs → AllByRecursion (λ s. given_at s h e ≢ []) subs
all_given limits h e waiting [] over = tt
all_given limits h e waiting (s ∷ subs) over = (some_given limits _ (waiting s) (given_at s h e) over.0, all_given limits h e waiting subs over.1)

-- ---- what is kept of a history, entry by entry

-- it is legal whatever comes behind it, and the numbers of its subscriptions are those from 1 on
pub record IsKept (h : List Entry) : Type 0 where
  pub settled : IsSettled h
  pub numbered : IsNumbered h

pub kept_first : IsKept []
kept_first = record { settled = settled_none; numbered = numbered_first }

pub kept_more : (h : List Entry) (e : Entry) → IsKept h → IsAccepted h e → IsKept (h ++ e ∷ [])
kept_more h e so is = record { settled = settled_more h e so.settled is; numbered = numbered_more h e is so.numbered }

-- those that are cut, behind a history
cut_by : StreamLimits → List Entry → Entry → (ℕ → ℕ) → List ℕ
cut_by limits h e waiting = filter (is_cut_by limits h e waiting) (served h)

kept_cuts : (limits : StreamLimits) (h : List Entry) (e : Entry) (waiting : ℕ → ℕ) → IsKept h → IsAccepted h e → IsKept (after_cuts h (cut_by limits h e waiting) ++ e ∷ [])
unfolding cut_by
kept_cuts limits h e waiting so is =
    let begun : List ℕ = flat_map subscribed_in h in
    let on : AllByRecursion (λ s. is_served s h ≡ true) (cut_by limits h e waiting) = all_of_filter (λ s. is_served s h ≡ true) (is_cut_by limits h e waiting) (served h) (all_filter (λ s. is_served s h) begun) in
    let up : Ascend (0 ∷ cut_by limits h e waiting) = ascend_above 0 (is_cut_by limits h e waiting) (served h) (ascend_above 0 (λ s. is_served s h) begun so.numbered.ascend) in
    let may : MayCutAll h (cut_by limits h e waiting) = may_cut_all h (cut_by limits h e waiting) on (subst (λ (n : ℕ). Ascend (n ∷ cut_by limits h e waiting)) (sym so.settled.closed) up) in
    let behind : IsAccepted (after_cuts h (cut_by limits h e waiting)) e = accepted_behind h (cut_by limits h e waiting) e is in
    record {
      settled = settled_cuts h (cut_by limits h e waiting) e so.settled may (all_given limits h e waiting (cut_by limits h e waiting) (all_filter (is_cut_by limits h e waiting) (served h))) behind;
      numbered = numbered_more (after_cuts h (cut_by limits h e waiting)) e behind
          (same_numbers h (cut_by limits h e waiting) so.numbered);
    } where
      same_numbers : (h : List Entry) (subs : List ℕ) → IsNumbered h → IsNumbered (after_cuts h subs)
      same_numbers h subs so = subst AreNumbers (sym (list-cuts subscribed_in (λ s. refl) h subs)) so

-- with an entry that is accepted and the cuts that it makes
pub kept_with_cuts : (limits : StreamLimits) (h : List Entry) (e : Entry) (waiting : ℕ → ℕ) → IsKept h → IsAccepted h e → IsKept (h ++ (cuts_before limits h e waiting ++ e ∷ []))
unfolding cut_by
kept_with_cuts limits h e waiting so is = subst IsKept (append_assoc h (cuts_before limits h e waiting) (e ∷ [])) (kept_cuts limits h e waiting so is)
