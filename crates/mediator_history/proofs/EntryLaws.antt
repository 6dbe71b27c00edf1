-- How much a history holds at most, whom it serves, and what one entry more changes of it.
use Rattle.std.proofs.Common.{◌≡◌, ℕ, ◌≤◌, Bool, true, false, cond, List, [], ◌∷◌, ◌++◌, length, Option, Some, None, refl, sym, ap, ◌∙◌, arith, append-nil, length-append}
use Rattle.std.specs.Prelude.{◌≢◌, ◌&&◌, not, ◌==◌, if◌then◌else◌, filter, reverse, unwrap_or}
use Rattle.std.specs.List.{flat_map, AllByRecursion}
use Rattle.std.proofs.Math.Bool.{and-true}
use Rattle.std.proofs.lemmas.Bool.{false≢true, cond_both, eqb-true, eqb-false, eq-eqb, ne_eqb, and_right, or_right}
use Rattle.std.proofs.lemmas.Grind.{flat_map-append}
use Rattle.std.proofs.lemmas.List.{length-reverse, reverse-append}
use Rattle.std.proofs.lemmas.List.Concat.{flat_map-cons}
use Rattle.std.proofs.lemmas.List.Elements.{filter-append}
use Rattle.std.proofs.lemmas.List.Sums.{count_by-le-length, length-filter}
use Rattle.sequences.specs.Before.{last_of}
use Rattle.sequences.proofs.BeforeLaws.{last_of-push}
use Rattle.event_journal.specs.declared.entry.Entry.{Entry}
use Rattle.event_journal.specs.declared.entry.Entry.TheVariants.{Open, Message, Edit, Subscribe, Unsubscribe, Cut}
use Rattle.mediator_history.specs.Numbers.{is_in}
use Rattle.mediator_history.specs.Sessions.{opened_in, sessions_opened, message_in, messages_of}
use Rattle.mediator_history.specs.Subscriptions.{texts_in, edits_made, begins, is_live, switched, is_served, subscribed_in, subscriptions_begun, served}
use Rattle.mediator_history.specs.LastEntries.{IsSubscribed}
use Rattle.mediator_history.specs.Disclosed.{given_at, disclosed}
use Rattle.mediator_history.specs.Auditing.{audit_at, audit_list}
use Rattle.mediator_history.proofs.HistoryLaws.{flat_map-push, disclosed-push, audit-push}
use Rattle.mediator_history.proofs.LastLaws.{served-found}
use Rattle.mediator_history.proofs.ListFilters.{filter_ext, filter_alike, filter_filter, filter_all, all_filter, is_in-filter, is_in-append}

-- an entry at which f has nothing adds nothing
flat_map-same : {A : Type 0} (f : Entry → List A) (h : List Entry) (e : Entry) → f e ≡ [] → flat_map f (h ++ e ∷ []) ≡ flat_map f h
flat_map-same f h e none = flat_map-push f h e ∙ ap (λ t. flat_map f h ++ t) none ∙ append-nil (flat_map f h)

-- ---- counts

-- where no entry brings more than one, there are no more than there are entries
pub few_in : {A : Type 0} (f : Entry → List A) → ((e : Entry) → length (f e) ≤ 1) → (h : List Entry) → length (flat_map f h) ≤ length h
few_in f few [] = omega arith
few_in f few (e ∷ h) = rw (flat_map-cons f e h) (omega (arith, length-append (f e) (flat_map f h), few e, few_in f few h))

pub edits_few : (h : List Entry) → edits_made h ≤ length h
edits_few h = few_in texts_in few h where
  few : (e : Entry) → length (texts_in e) ≤ 1
  few (Edit text) = omega arith
  few _ = omega arith

pub opened_few : (h : List Entry) → sessions_opened h ≤ length h
opened_few h = few_in opened_in few h where
  few : (e : Entry) → length (opened_in e) ≤ 1
  few (Open session) = omega arith
  few _ = omega arith

pub subscribed_few : (h : List Entry) → subscriptions_begun h ≤ length h
subscribed_few h = few_in subscribed_in few h where
  few : (e : Entry) → length (subscribed_in e) ≤ 1
  few (Subscribe sub name) = omega arith
  few _ = omega arith

pub messages_few : (session : ℕ) (h : List Entry) → length (messages_of session h) ≤ length h
messages_few session h = omega (arith, length-reverse (flat_map (message_in session) h), few_in (message_in session) few h) where
  few : (e : Entry) → length (message_in session e) ≤ 1
  few (Message s number octets) = cond_both (s == session) (octets ∷ []) [] (λ t. length t ≤ 1) (λ _. omega arith) (λ _. omega arith)
  few _ = omega arith

pub served_few : (h : List Entry) → length (served h) ≤ length h
served_few h =
    let on = λ (sub : ℕ). is_served sub h in
    omega (arith, length-filter on (flat_map subscribed_in h), count_by-le-length on (flat_map subscribed_in h), subscribed_few h)

-- ---- who is served

pub served_is_begun : (sub : ℕ) (h : List Entry) → is_served sub h ≡ true → is_in sub (flat_map subscribed_in h) ≡ true
served_is_begun sub h on = begun (served-found sub h on) where
  begun : IsSubscribed sub h → is_in sub (flat_map subscribed_in h) ≡ true
  begun is =
      let here : is_in sub (sub ∷ flat_map subscribed_in is.after) ≡ true = rw (eq-eqb sub sub refl) refl in
      ap (λ t. is_in sub (flat_map subscribed_in t)) is.history_is
      ∙ ap (is_in sub) (flat_map-append subscribed_in is.before (Subscribe sub is.name ∷ is.after) ∙ ap (λ t. flat_map subscribed_in is.before ++ t) (flat_map-cons subscribed_in (Subscribe sub is.name) is.after))
      ∙ is_in-append sub (flat_map subscribed_in is.before) (sub ∷ flat_map subscribed_in is.after)
      ∙ or_right (is_in sub (flat_map subscribed_in is.before)) (is_in sub (sub ∷ flat_map subscribed_in is.after)) here

pub is_in-served : (sub : ℕ) (h : List Entry) → is_in sub (served h) ≡ is_served sub h
is_in-served sub h = is_in-filter (λ s. is_served s h) sub (flat_map subscribed_in h) ∙ by_test (is_served sub h) refl where
  by_test : (on : Bool) → is_served sub h ≡ on → (on && is_in sub (flat_map subscribed_in h)) ≡ on
  by_test true is = served_is_begun sub h is
  by_test false is = refl

pub all_served : (h : List Entry) → AllByRecursion (λ sub. is_served sub h ≡ true) (served h)
all_served h = all_filter (λ sub. is_served sub h) (flat_map subscribed_in h)

-- an entry that leaves a subscription served leaves it live
live_step : (sub : ℕ) (on live : Bool) → (on ≡ true → live ≡ true) → (e : Entry) → unwrap_or (switched sub e) on ≡ true → unwrap_or (begins sub e) live ≡ true
live_step sub on live so (Subscribe s name) is = by_number (s == sub) is where
  by_number : (same : Bool) → (let at : Option Bool = cond same (Some true) None in unwrap_or at on ≡ true) → (let at : Option Bool = cond same (Some true) None in unwrap_or at live ≡ true)
  by_number true is = refl
  by_number false is = so is
live_step sub on live so (Unsubscribe s) is = by_number (s == sub) is where
  by_number : (same : Bool) → (let at : Option Bool = cond same (Some false) None in unwrap_or at on ≡ true) → (let at : Option Bool = cond same (Some false) None in unwrap_or at live ≡ true)
  by_number true is = is
  by_number false is = so is
live_step sub on live so (Cut s) is = by_number (s == sub) is where
  by_number : (same : Bool) → (let at : Option Bool = cond same (Some false) None in unwrap_or at on ≡ true) → live ≡ true
  by_number true is = absurd (false≢true is)
  by_number false is = so is
live_step sub on live so _ is = so is

live_from : (sub : ℕ) (on live : Bool) (h : List Entry) → (on ≡ true → live ≡ true) → last_of (switched sub) on h ≡ true → last_of (begins sub) live h ≡ true
live_from sub on live [] so is = so is
live_from sub on live (e ∷ h) so is = live_from sub (unwrap_or (switched sub e) on) (unwrap_or (begins sub e) live) h (live_step sub on live so e) is

pub served_is_live : (sub : ℕ) (h : List Entry) → is_served sub h ≡ true → is_live sub h ≡ true
served_is_live sub h is = live_from sub false false h (λ e. e) is

-- ---- whom one entry more serves

pub served_same : (h : List Entry) (e : Entry) → ((sub : ℕ) → switched sub e ≡ None) → subscribed_in e ≡ [] → served (h ++ e ∷ []) ≡ served h
served_same h e none new =
    filter_ext (λ sub. is_served sub (h ++ e ∷ [])) (λ sub. is_served sub h) same (flat_map subscribed_in (h ++ e ∷ []))
    ∙ ap (filter (λ sub. is_served sub h)) (flat_map-same subscribed_in h e new) where
      same : (sub : ℕ) → is_served sub (h ++ e ∷ []) ≡ is_served sub h
      same sub = last_of-push (switched sub) false h e ∙ ap (λ (o : Option Bool). unwrap_or o (is_served sub h)) (none sub)

pub served-subscribe : (h : List Entry) (sub : ℕ) (name : List ℕ) → AllByRecursion (λ s. s ≢ sub) (flat_map subscribed_in h) → served (h ++ Subscribe sub name ∷ []) ≡ served h ++ sub ∷ []
served-subscribe h sub name new =
    ap (filter on) (flat_map-push subscribed_in h (Subscribe sub name))
    ∙ filter-append on (flat_map subscribed_in h) (sub ∷ [])
    ∙ ap (λ t. t ++ filter on (sub ∷ [])) (filter_alike on (λ s. is_served s h) (flat_map subscribed_in h) (all_same (flat_map subscribed_in h) new))
    ∙ ap (λ t. served h ++ t) (filter_all on (sub ∷ []) (here, tt)) where
      on : ℕ → Bool
      on s = is_served s (h ++ Subscribe sub name ∷ [])

      here : on sub ≡ true
      here = last_of-push (switched sub) false h (Subscribe sub name) ∙ (rw (eq-eqb sub sub refl) refl)

      same : (s : ℕ) → s ≢ sub → on s ≡ is_served s h
      same s other = last_of-push (switched s) false h (Subscribe sub name) ∙ (rw (ne_eqb sub s (λ e. other (sym e))) refl)

      all_same : (subs : List ℕ) → AllByRecursion (λ s. s ≢ sub) subs → AllByRecursion (λ s. on s ≡ is_served s h) subs
      all_same [] others = tt
      all_same (s ∷ subs) others = (same s others.0, all_same subs others.1)

-- an entry that ends this subscription alone
ended : (h : List Entry) (e : Entry) (sub : ℕ) → ((q : ℕ) → switched q e ≡ (if sub == q then Some false else None)) → subscribed_in e ≡ [] → served (h ++ e ∷ []) ≡ filter (λ q. not (q == sub)) (served h)
ended h e sub ends new =
    ap (filter (λ q. is_served q (h ++ e ∷ []))) (flat_map-same subscribed_in h e new)
    ∙ filter_ext (λ q. is_served q (h ++ e ∷ [])) (λ q. is_served q h && not (q == sub)) left (flat_map subscribed_in h)
    ∙ sym (filter_filter (λ q. not (q == sub)) (λ q. is_served q h) (flat_map subscribed_in h)) where
      by_number : (q : ℕ) (same : Bool) → (sub == q) ≡ same → (on : Bool) → (let at : Option Bool = cond same (Some false) None in unwrap_or at on ≡ (on && not (q == sub)))
      by_number q true is on = sym (and_right on (not (q == sub)) (ap not (eq-eqb q sub (sym (eqb-true sub q is)))))
      by_number q false is on = rw (ne_eqb q sub (λ same. eqb-false sub q is (sym same))) (sym (and-true on))

      left : (q : ℕ) → is_served q (h ++ e ∷ []) ≡ (is_served q h && not (q == sub))
      left q = last_of-push (switched q) false h e ∙ ap (λ (o : Option Bool). unwrap_or o (is_served q h)) (ends q) ∙ by_number q (sub == q) refl (is_served q h)

pub served-unsubscribe : (h : List Entry) (sub : ℕ) → served (h ++ Unsubscribe sub ∷ []) ≡ filter (λ q. not (q == sub)) (served h)
served-unsubscribe h sub = ended h (Unsubscribe sub) sub (λ q. refl) refl

pub served-cut : (h : List Entry) (sub : ℕ) → served (h ++ Cut sub ∷ []) ≡ filter (λ q. not (q == sub)) (served h)
served-cut h sub = ended h (Cut sub) sub (λ q. refl) refl

-- ---- what else one entry more brings

pub messages-any : (id session number : ℕ) (octets : List ℕ) (h : List Entry) → messages_of id (h ++ Message session number octets ∷ []) ≡ (if session == id then octets ∷ messages_of id h else messages_of id h)
messages-any id session number octets h = ap reverse (flat_map-push (message_in id) h (Message session number octets)) ∙ by_number (session == id) where
  by_number : (same : Bool) → reverse (flat_map (message_in id) h ++ cond same (octets ∷ []) []) ≡ cond same (octets ∷ messages_of id h) (messages_of id h)
  by_number true = reverse-append (flat_map (message_in id) h) (octets ∷ [])
  by_number false = ap reverse (append-nil (flat_map (message_in id) h))

pub messages_same : (id : ℕ) (h : List Entry) (e : Entry) → message_in id e ≡ [] → messages_of id (h ++ e ∷ []) ≡ messages_of id h
messages_same id h e none = ap reverse (flat_map-same (message_in id) h e none)

pub given_same : (sub : ℕ) (h : List Entry) (e : Entry) → given_at sub h e ≡ [] → disclosed sub (h ++ e ∷ []) ≡ disclosed sub h
given_same sub h e none = disclosed-push sub h e ∙ ap (λ t. disclosed sub h ++ t) none ∙ append-nil (disclosed sub h)

pub audit_same : (h : List Entry) (e : Entry) → audit_at h e ≡ [] → audit_list (h ++ e ∷ []) ≡ audit_list h
audit_same h e none = audit-push h e ∙ ap (λ t. audit_list h ++ t) none ∙ append-nil (audit_list h)
