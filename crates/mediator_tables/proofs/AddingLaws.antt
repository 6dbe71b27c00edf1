-- What a message adds to running groups, one subscription after another: made ready, and then added.
use Rattle.std.proofs.Common.{◌≡◌, ◌≢◌, ℕ, ◌+◌, ◌<◌, ◌≤◌, Bool, true, false, cond, eqb, List, [], ◌∷◌, ◌++◌, length, map, take, drop, slice_get, true≢false, refl, sym, ap, ◌∙◌, subst, arith, append_assoc, append-nil, length-append}
use Rattle.std.specs.Prelude.{get_or, ◌==◌, if◌then◌else◌}
use Rattle.std.specs.List.{AllByRecursion, flat_map}
use Rattle.std.specs.Map.{keys_of}
use Rattle.std.proofs.lemmas.Bool.{eqb-true, eqb-false, ne_eqb}
use Rattle.std.proofs.lemmas.Grind.{flat_map-append}
use Rattle.std.proofs.lemmas.List.{map-append, take_more, take-append-drop}
use Rattle.std.proofs.lemmas.List.Concat.{flat_map-cons}
use Rattle.std.proofs.lemmas.Slice.Zip.{all_zipped_more}
use Rattle.flow_aggregate.specs.declared.addition.Addition.{Addition}
use Rattle.flow_aggregate.specs.Counts.{Count, count_of}
use Rattle.flow_aggregate.specs.Groups.{Group, Sample}
use Rattle.flow_aggregate.specs.Additions.{AreReadyToAdd, groups_in, is_group_among}
use Rattle.flow_aggregate.specs.Running.{HeldGroups, SumsStand, nothing_held}
use Rattle.mediator_tables.specs.GroupTable.{held_at, groups_at, IsHeldAt}
use Rattle.mediator_tables.specs.Adding.{IsReadyFor, AllReady, NoneTwice, AreCountable, added_to}

-- each place stays that of its subscription
abbrev pub PlacesStay : List (ℕ × HeldGroups) → List (ℕ × HeldGroups) → Type 0
PlacesStay old new = (place q : ℕ) → IsHeldAt old place q → IsHeldAt new place q

pub same_places : (old new : List (ℕ × HeldGroups)) → keys_of new ≡ keys_of old → PlacesStay old new
same_places old new same place q at = ap (λ (ks : List ℕ). slice_get ks place) same ∙ at

-- ---- adding, one subscription after another

-- some were added to, and the rest is ready
pub record IsCounting (old now : List (ℕ × HeldGroups)) (left : List (ℕ × List Addition)) (all : List (ℕ × List Count)) : Type 0 where
  pub done : List (ℕ × List Count)
  pub rest : List (ℕ × List Count)
  pub split : all ≡ done ++ rest
  pub each : (q : ℕ) (before more : List Sample) → SumsStand (groups_at old q) before → added_to q done ≡ map count_of more → SumsStand (groups_at now q) (before ++ more)
  pub spent : AllByRecursion (λ t. (held_at now t.0).ready ≡ []) done
  pub others : (q : ℕ) → AllByRecursion (λ t. t.0 ≢ q) done → held_at now q ≡ held_at old q
  pub behind : AllByRecursion (λ r. AllByRecursion (λ o. o.0 ≢ r.0) done) rest
  pub apart : NoneTwice rest
  pub ready : AllReady now left rest

-- so it is whatever they are
abbrev pub CountsOn : List (ℕ × HeldGroups) → List (ℕ × HeldGroups) → List (ℕ × List Addition) → List (ℕ × List Addition) → Type 0
CountsOn old now all left = (tallies : List (ℕ × List Count)) → AllReady old all tallies → NoneTwice tallies → IsCounting old now left tallies

ready_stays : (sub : ℕ) (es es2 : List (ℕ × HeldGroups)) (rs : List (ℕ × List Addition)) (ts : List (ℕ × List Count)) → PlacesStay es es2 → ((q : ℕ) → q ≢ sub → held_at es2 q ≡ held_at es q)
    → AllByRecursion (λ o. o.0 ≢ sub) ts → AllReady es rs ts → AllReady es2 rs ts
ready_stays sub es es2 [] [] places others apart ready = tt
ready_stays sub es es2 [] (t ∷ ts) places others apart ready = absurd ready
ready_stays sub es es2 (r ∷ rs) [] places others apart ready = absurd ready
ready_stays sub es es2 (r ∷ rs) (t ∷ ts) places others apart ready =
    ((λ some. places r.0 t.0 (ready.0.0 some), subst (λ (h : HeldGroups). AreReadyToAdd h r.1 t.1) (sym (others t.0 apart.0)) ready.0.1), ready_stays sub es es2 rs ts places others apart.1 ready.1)

none_added : (q : ℕ) (ts : List (ℕ × List Count)) → AllByRecursion (λ o. o.0 ≢ q) ts → added_to q ts ≡ []
none_added q [] apart = refl
none_added q (t ∷ ts) apart =
    flat_map-cons (λ (s : ℕ × List Count). cond (eqb s.0 q) s.1 []) t ts
    ∙ ap (λ (b : Bool). cond b t.1 [] ++ added_to q ts) (ne_eqb t.0 q apart.0)
    ∙ none_added q ts apart.1

all_push : {X : Type 0} (P : X → Type 0) (xs : List X) (x : X) → AllByRecursion P xs → P x → AllByRecursion P (xs ++ x ∷ [])
all_push P [] x all here = (here, tt)
all_push P (y ∷ ys) x all here = (all.0, all_push P ys x all.1 here)

apart_more : (done : List (ℕ × List Count)) (t : ℕ × List Count) (ts : List (ℕ × List Count)) → AllByRecursion (λ r. AllByRecursion (λ o. o.0 ≢ r.0) done) ts → AllByRecursion (λ o. o.0 ≢ t.0) ts
    → AllByRecursion (λ r. AllByRecursion (λ o. o.0 ≢ r.0) (done ++ t ∷ [])) ts
apart_more done t [] apart other = tt
apart_more done t (r ∷ rs) apart other = (all_push (λ o. o.0 ≢ r.0) done t apart.0 (λ same. other.0 (sym same)), apart_more done t rs apart.1 other.1)

apart_none : (ts : List (ℕ × List Count)) → AllByRecursion (λ (r : ℕ × List Count). AllByRecursion (λ (o : ℕ × List Count). o.0 ≢ r.0) []) ts
apart_none [] = tt
apart_none (t ∷ ts) = (tt, apart_none ts)

none_of : (more : List Sample) → [] ≡ map count_of more → more ≡ []
none_of [] is = refl
none_of (c ∷ cs) is = absurd cc

-- ---- where nothing is added

no_counts : (held : HeldGroups) (counts : List Count) → AreReadyToAdd held [] counts → counts ≡ []
no_counts held [] made = refl
no_counts held (c ∷ cs) made = absurd made.each

none_among : (ready : List Group) → AllByRecursion (λ g. is_group_among (groups_in []) g ≡ true) ready → ready ≡ []
none_among [] wanted = refl
none_among (g ∷ gs) wanted = absurd (true≢false (sym wanted.0))

-- no group was made for it
pub nothing_ready : (held : HeldGroups) (additions : List Addition) (counts : List Count) → additions ≡ [] → AreReadyToAdd held additions counts → held.ready ≡ []
nothing_ready held additions counts none made =
    let here : AreReadyToAdd held [] counts = subst (λ (made : List Addition). AreReadyToAdd held made counts) none made in
    none_among held.ready (subst (AreReadyToAdd held []) (no_counts held counts here) here).wanted

-- and what was counted stays
pub nothing_counted : (held : HeldGroups) (additions : List Addition) (before more : List Sample) → additions ≡ [] → AreReadyToAdd held additions (map count_of more)
    → SumsStand held.groups before → SumsStand held.groups (before ++ more)
nothing_counted held additions before more none made stands =
    let here : AreReadyToAdd held [] (map count_of more) = subst (λ (made : List Addition). AreReadyToAdd held made (map count_of more)) none made in
    subst (SumsStand held.groups) (sym (ap (λ (l : List Sample). before ++ l) (none_of more (sym (no_counts held (map count_of more) here))) ∙ append-nil before)) stands

-- what is made ready then, for a subscription that holds nothing
pub nothing_made : (groups : List (ℕ × HeldGroups)) (sub place : ℕ) (counts : List Count) (additions : List Addition) → held_at groups sub ≡ nothing_held → counts ≡ [] → additions ≡ [] → IsReadyFor groups (place, additions) (sub, counts)
nothing_made groups sub place counts additions none few empty = (
  λ some. absurd (some empty),
  subst (λ (h : HeldGroups). AreReadyToAdd h additions counts) (sym none)
      (subst (AreReadyToAdd nothing_held additions) (sym few) (subst (λ (made : List Addition). AreReadyToAdd nothing_held made []) (sym empty) (record { each = tt; wanted = tt }))),
)

-- nothing is added where there is none
pub none_added_where : (additions : List Addition) → (length additions == 0) ≡ true → additions ≡ []
none_added_where [] none = refl
none_added_where (a ∷ additions) none = absurd (omega (arith, eqb-true (length (a ∷ additions)) 0 none))

-- something is added where it isn't none
pub some_added : (additions : List Addition) → (length additions == 0) ≡ false → additions ≢ []
some_added additions some none = true≢false (sym (ap (λ (made : List Addition). length made == 0) none) ∙ some)

pub counting_start : (groups : List (ℕ × HeldGroups)) (all left : List (ℕ × List Addition)) → all ≡ left → CountsOn groups groups all left
counting_start groups all left is tallies ready apart = record {
  done = [];
  rest = tallies;
  split = refl;
  each = λ q before more so adds. subst (SumsStand (groups_at groups q)) (sym (ap (λ (l : List Sample). before ++ l) (none_of more adds) ∙ append-nil before)) so;
  spent = tt;
  others = λ q none. refl;
  behind = apart_none tallies;
  apart = apart;
  ready = subst (λ (rs : List (ℕ × List Addition)). AllReady groups rs tallies) is ready;
}

-- what is ready for the next one
pub counts_next : (old now : List (ℕ × HeldGroups)) (all left left2 : List (ℕ × List Addition)) (r : ℕ × List Addition) → left ≡ r ∷ left2 → AreCountable old all → CountsOn old now all left
    → (sub : ℕ) × (counts : List Count) × IsReadyFor now r (sub, counts)
counts_next old now all left left2 r is countable so =
    let here = so countable.0 countable.1 countable.2 in
    by here.rest (subst (λ (rs : List (ℕ × List Addition)). AllReady now rs here.rest) is here.ready)
  where
    by : (rest : List (ℕ × List Count)) → AllReady now (r ∷ left2) rest → (sub : ℕ) × (counts : List Count) × IsReadyFor now r (sub, counts)
    by [] ready = absurd ready
    by (t ∷ ts) ready = (t.0, t.1, ready.0)

added_push : (q : ℕ) (done : List (ℕ × List Count)) (t : ℕ × List Count) → added_to q (done ++ t ∷ []) ≡ added_to q done ++ (if t.0 == q then t.1 else [])
added_push q done t = flat_map-append (λ (s : ℕ × List Count). cond (eqb s.0 q) s.1 []) done (t ∷ []) ∙ ap (λ (l : List Count). added_to q done ++ l) (append-nil (cond (eqb t.0 q) t.1 []))

-- what a call adds that adds what is ready at a place, and what it leaves
abbrev pub Adds : List (ℕ × HeldGroups) → List (ℕ × HeldGroups) → ℕ × List Addition → Type 0
Adds now now2 r = (sub : ℕ) (before more : List Sample) → IsReadyFor now r (sub, map count_of more) → SumsStand (groups_at now sub) before → SumsStand (groups_at now2 sub) (before ++ more)

abbrev pub OthersStay : List (ℕ × HeldGroups) → List (ℕ × HeldGroups) → ℕ × List Addition → Type 0
OthersStay now now2 r = (sub q : ℕ) (counts : List Count) → IsReadyFor now r (sub, counts) → q ≢ sub → held_at now2 q ≡ held_at now q

-- nothing is ready any more where it adds
abbrev pub Spends : List (ℕ × HeldGroups) → List (ℕ × HeldGroups) → ℕ × List Addition → Type 0
Spends now now2 r = (sub : ℕ) (counts : List Count) → IsReadyFor now r (sub, counts) → (held_at now2 sub).ready ≡ []

-- nor where it was added before
spent_stays : (sub : ℕ) (now now2 : List (ℕ × HeldGroups)) (done : List (ℕ × List Count)) → ((q : ℕ) → q ≢ sub → held_at now2 q ≡ held_at now q) → AllByRecursion (λ o. o.0 ≢ sub) done
    → AllByRecursion (λ t. (held_at now t.0).ready ≡ []) done → AllByRecursion (λ t. (held_at now2 t.0).ready ≡ []) done
spent_stays sub now now2 [] others apart spent = tt
spent_stays sub now now2 (t ∷ ts) others apart spent = (ap (λ (h : HeldGroups). h.ready) (others t.0 apart.0) ∙ spent.0, spent_stays sub now now2 ts others apart.1 spent.1)

-- what holds of all holds of the first ones, and of the last
all_front : {X : Type 0} (P : X → Type 0) (xs : List X) (x : X) → AllByRecursion P (xs ++ x ∷ []) → AllByRecursion P xs × P x
all_front P [] x all = (tt, all.0)
all_front P (y ∷ ys) x all = let rest = all_front P ys x all.1 in ((all.0, rest.0), rest.1)

-- one more of the tallies
one_counted : (old now now2 : List (ℕ × HeldGroups)) (left : List (ℕ × List Addition)) (all done rest : List (ℕ × List Count)) (r : ℕ × List Addition) (t : ℕ × List Count)
    → all ≡ done ++ t ∷ rest
    → ((q : ℕ) (before more : List Sample) → SumsStand (groups_at old q) before → added_to q done ≡ map count_of more → SumsStand (groups_at now q) (before ++ more))
    → AllByRecursion (λ d. (held_at now d.0).ready ≡ []) done
    → ((q : ℕ) → AllByRecursion (λ d. d.0 ≢ q) done → held_at now q ≡ held_at old q)
    → AllByRecursion (λ o. AllByRecursion (λ d. d.0 ≢ o.0) done) (t ∷ rest) → NoneTwice (t ∷ rest) → AllReady now (r ∷ left) (t ∷ rest)
    → Adds now now2 r → Spends now now2 r → OthersStay now now2 r → PlacesStay now now2
    → IsCounting old now2 left all
one_counted old now now2 left all done rest r t split each spent first behind apart ready adds spends others places = record {
  done = done ++ t ∷ [];
  rest = rest;
  split = split ∙ sym (append_assoc done (t ∷ []) rest);
  each = λ q before more stands counts. by_number q before more stands (sym (added_push q done t) ∙ counts) behind.0 (t.0 == q) refl;
  spent = all_push (λ d. (held_at now2 d.0).ready ≡ []) done t (spent_stays t.0 now now2 done (λ q other. others t.0 q t.1 ready.0 other) behind.0 spent) (spends t.0 t.1 ready.0);
  others = λ q none. let ends = all_front (λ d. d.0 ≢ q) done t none in others t.0 q t.1 ready.0 (λ same. ends.1 (sym same)) ∙ first q ends.0;
  behind = apart_more done t rest behind.1 apart.0;
  apart = apart.1;
  ready = ready_stays t.0 now now2 left rest places (λ q other. others t.0 q t.1 ready.0 other) apart.0 ready.1;
}
  where
    by_number : (q : ℕ) (before more : List Sample) → SumsStand (groups_at old q) before → (added_to q done ++ (if t.0 == q then t.1 else [])) ≡ map count_of more
        → AllByRecursion (λ o. o.0 ≢ t.0) done → (same : Bool) → (t.0 == q) ≡ same → SumsStand (groups_at now2 q) (before ++ more)
    by_number q before more stands counts first true is =
        let same : t.0 ≡ q = eqb-true t.0 q is in
        let none : added_to q done ≡ [] = none_added q done (subst (λ (n : ℕ). AllByRecursion (λ o. o.0 ≢ n) done) same first) in
        let here : t.1 ≡ map count_of more =
        sym (ap (λ (l : List Count). l ++ (if t.0 == q then t.1 else [])) none ∙ ap (λ (b : Bool). cond b t.1 []) is) ∙ counts in
        let made : IsReadyFor now r (t.0, map count_of more) = (ready.0.0, subst (λ (ks : List Count). AreReadyToAdd (held_at now t.0) r.1 ks) here ready.0.1) in
        subst (λ (n : ℕ). SumsStand (groups_at now2 n) (before ++ more)) same
        (adds t.0 before more made (subst (λ (n : ℕ). SumsStand (groups_at now n) before) (sym same) (subst (SumsStand (groups_at now q)) (append-nil before) (each q before [] stands none))))
    by_number q before more stands counts first false is =
        let other : q ≢ t.0 = λ e. eqb-false t.0 q is (sym e) in
        subst (λ (h : HeldGroups). SumsStand h.groups (before ++ more)) (sym (others t.0 q t.1 ready.0 other))
        (each q before more stands (sym (append-nil (added_to q done)) ∙ ap (λ (b : Bool). added_to q done ++ cond b t.1 []) (sym is) ∙ counts))

pub counting_next : (old now now2 : List (ℕ × HeldGroups)) (all left left2 : List (ℕ × List Addition)) (r : ℕ × List Addition) → left ≡ r ∷ left2
    → Adds now now2 r → Spends now now2 r → OthersStay now now2 r → PlacesStay now now2
    → CountsOn old now all left → CountsOn old now2 all left2
counting_next old now now2 all left left2 r is adds spends others places so tallies ready apart =
    let here = so tallies ready apart in
    by here.rest here.split here.behind here.apart (subst (λ (rs : List (ℕ × List Addition)). AllReady now rs here.rest) is here.ready)
  where
    by : (rest : List (ℕ × List Count)) → tallies ≡ (so tallies ready apart).done ++ rest → AllByRecursion (λ o. AllByRecursion (λ d. d.0 ≢ o.0) (so tallies ready apart).done) rest → NoneTwice rest
        → AllReady now (r ∷ left2) rest → IsCounting old now2 left2 tallies
    by [] split behind alone made = absurd made
    by (t ∷ ts) split behind alone made =
        one_counted old now now2 left2 tallies (so tallies ready apart).done ts r t split (so tallies ready apart).each (so tallies ready apart).spent (so tallies ready apart).others behind alone made adds spends others places

-- all were added to
pub counting_end : (old now : List (ℕ × HeldGroups)) (all left : List (ℕ × List Addition)) → CountsOn old now all left → left ≡ []
    → (tallies : List (ℕ × List Count)) → AllReady old all tallies → NoneTwice tallies → (so : IsCounting old now [] tallies) × (tallies ≡ so.done)
counting_end old now all left so none tallies ready apart =
    let here : IsCounting old now [] tallies = subst (λ (rs : List (ℕ × List Addition)). IsCounting old now rs tallies) none (so tallies ready apart) in
    (here, here.split ∙ ap (λ (l : List (ℕ × List Count)). here.done ++ l) (by here.rest here.ready) ∙ append-nil here.done)
  where
    by : (rest : List (ℕ × List Count)) → AllReady now [] rest → rest ≡ []
    by [] made = refl
    by (t ∷ ts) made = absurd made

pub all_added : (old now : List (ℕ × HeldGroups)) (all left : List (ℕ × List Addition)) → CountsOn old now all left → left ≡ []
    → (tallies : List (ℕ × List Count)) → AllReady old all tallies → NoneTwice tallies
    → (q : ℕ) (before more : List Sample) → SumsStand (groups_at old q) before → added_to q tallies ≡ map count_of more → SumsStand (groups_at now q) (before ++ more)
all_added old now all left so none tallies ready apart q before more stands adds =
    let end = counting_end old now all left so none tallies ready apart in end.0.each q before more stands (ap (added_to q) (sym end.1) ∙ adds)

pub all_spent : (old now : List (ℕ × HeldGroups)) (all left : List (ℕ × List Addition)) → CountsOn old now all left → left ≡ []
    → (tallies : List (ℕ × List Count)) → AllReady old all tallies → NoneTwice tallies → AllByRecursion (λ t. (held_at now t.0).ready ≡ []) tallies
all_spent old now all left so none tallies ready apart =
    let end = counting_end old now all left so none tallies ready apart in subst (λ (ts : List (ℕ × List Count)). AllByRecursion (λ t. (held_at now t.0).ready ≡ []) ts) (sym end.1) end.0.spent

pub others_kept : (old now : List (ℕ × HeldGroups)) (all left : List (ℕ × List Addition)) → CountsOn old now all left → left ≡ []
    → (tallies : List (ℕ × List Count)) → AllReady old all tallies → NoneTwice tallies → (q : ℕ) → AllByRecursion (λ t. t.0 ≢ q) tallies → held_at now q ≡ held_at old q
others_kept old now all left so none tallies ready apart q away =
    let end = counting_end old now all left so none tallies ready apart in end.0.others q (subst (λ (ts : List (ℕ × List Count)). AllByRecursion (λ t. t.0 ≢ q) ts) end.1 away)

-- ---- what is made ready, one subscription after another

-- no more groups are ready than these add to
abbrev pub ReadyFor : List (ℕ × HeldGroups) → List (ℕ × List Count) → Type 0
ReadyFor groups tallies = (q : ℕ) → length (held_at groups q).ready ≤ length (added_to q tallies)

-- so many tallies are ready, where no subscription stands twice
pub record IsReserving (old now : List (ℕ × HeldGroups)) (reserved : List (ℕ × List Addition)) (tallies : List (ℕ × List Count)) (count capacity all : ℕ) : Type 0 where
  pub same : (q : ℕ) → groups_at now q ≡ groups_at old q
  pub few : ReadyFor now tallies
  pub ready : NoneTwice tallies → AllReady now reserved tallies
  pub long : length reserved ≡ count
  pub room : all ≤ capacity

-- of tallies that are apart the first ones are, and the last one is apart from them
apart_front : (ts : List (ℕ × List Count)) (t : ℕ × List Count) → NoneTwice (ts ++ t ∷ []) → NoneTwice ts × AllByRecursion (λ o. o.0 ≢ t.0) ts
apart_front [] t apart = (tt, tt)
apart_front (u ∷ ts) t apart =
    let rest = apart_front ts t apart.1 in
    let ends = front_of u ts apart.0 in
    ((ends.0, rest.0), (λ same. ends.1 (sym same), rest.1))
  where
    front_of : (u : ℕ × List Count) (us : List (ℕ × List Count)) → AllByRecursion (λ o. o.0 ≢ u.0) (us ++ t ∷ []) → AllByRecursion (λ o. o.0 ≢ u.0) us × (t.0 ≢ u.0)
    front_of u [] all = (tt, all.0)
    front_of u (o ∷ us) all = let more = front_of u us all.1 in ((all.0, more.0), more.1)

-- one subscription more
few_next : (now now2 : List (ℕ × HeldGroups)) (ts : List (ℕ × List Count)) (t : ℕ × List Count) → ReadyFor now ts → length (held_at now2 t.0).ready ≤ length t.1
    → ((q : ℕ) → q ≢ t.0 → held_at now2 q ≡ held_at now q) → ReadyFor now2 (ts ++ t ∷ [])
few_next now now2 ts t so here others q = by (t.0 == q) refl where
  long : (b : Bool) → (t.0 == q) ≡ b → length (added_to q (ts ++ t ∷ [])) ≡ length (added_to q ts) + length (cond b t.1 [])
  long b is = ap length (added_push q ts t ∙ ap (λ (c : Bool). added_to q ts ++ cond c t.1 []) is) ∙ length-append (added_to q ts) (cond b t.1 [])

  by : (b : Bool) → (t.0 == q) ≡ b → length (held_at now2 q).ready ≤ length (added_to q (ts ++ t ∷ []))
  by true is =
      let at : length (held_at now2 q).ready ≤ length t.1 = subst (λ (n : ℕ). length (held_at now2 n).ready ≤ length t.1) (eqb-true t.0 q is) here in
      omega (arith, at, long true is)
  by false is = omega (arith, ap (λ (h : HeldGroups). length h.ready) (others q (λ e. eqb-false t.0 q is (sym e))), so q, long false is)

-- what the first ones add is no more than what all add
front_few : {X : Type 0} (f : X → ℕ × List Count) (groups : List (ℕ × HeldGroups)) (xs : List X) (n : ℕ) → ReadyFor groups (map f (take n xs)) → ReadyFor groups (map f xs)
front_few f groups xs n so q =
    let parts : added_to q (map f xs) ≡ added_to q (map f (take n xs)) ++ added_to q (map f (drop n xs)) =
    ap (λ ys. added_to q (map f ys)) (sym (take-append-drop n xs)) ∙ ap (added_to q) (map-append f (take n xs) (drop n xs))
    ∙ flat_map-append (λ (s : ℕ × List Count). cond (eqb s.0 q) s.1 []) (map f (take n xs)) (map f (drop n xs)) in
    omega (arith, so q, ap length parts ∙ length-append (added_to q (map f (take n xs))) (added_to q (map f (drop n xs))))

one_more : {X : Type 0} (f : X → ℕ × List Count) (xs : List X) (i : ℕ) (x d : X) → i < length xs → x ≡ get_or xs i d → map f (take (i + 1) xs) ≡ map f (take i xs) ++ f x ∷ []
one_more f xs i x d within is =
    ap (map f) (take_more xs i d within) ∙ map-append f (take i xs) (get_or xs i d ∷ []) ∙ ap (λ y. map f (take i xs) ++ f y ∷ []) (sym is)

-- where one could not be made ready
pub reserving_few : {X : Type 0} (f : X → ℕ × List Count) (old now now2 : List (ℕ × HeldGroups)) (reserved : List (ℕ × List Addition)) (xs : List X) (i capacity all : ℕ) (x d : X)
    → i < length xs → x ≡ get_or xs i d → ((q : ℕ) → q ≢ (f x).0 → held_at now2 q ≡ held_at now q) → length (held_at now2 (f x).0).ready ≤ length (f x).1
    → IsReserving old now reserved (map f (take i xs)) i capacity all → ReadyFor now2 (map f xs)
reserving_few f old now now2 reserved xs i capacity all x d within is others here so =
    front_few f now2 xs (i + 1) (subst (ReadyFor now2) (sym (one_more f xs i x d within is)) (few_next now now2 (map f (take i xs)) (f x) so.few here others))

pub reserving_next : {X : Type 0} (f : X → ℕ × List Count) (old now now2 : List (ℕ × HeldGroups)) (reserved reserved2 : List (ℕ × List Addition)) (xs : List X) (i capacity capacity2 : ℕ) (x d : X) (r : ℕ × List Addition)
    → i < length xs → x ≡ get_or xs i d → ((q : ℕ) → groups_at now2 q ≡ groups_at now q) → ((q : ℕ) → q ≢ (f x).0 → held_at now2 q ≡ held_at now q) → PlacesStay now now2
    → length (held_at now2 (f x).0).ready ≤ length (f x).1 → IsReadyFor now2 r (f x)
    → reserved2 ≡ reserved ++ r ∷ [] → capacity2 ≡ capacity
    → IsReserving old now reserved (map f (take i xs)) i capacity (length xs) → IsReserving old now2 reserved2 (map f (take (i + 1) xs)) (i + 1) capacity2 (length xs)
reserving_next f old now now2 reserved reserved2 xs i capacity capacity2 x d r within is same others places few here pushed kept so =
    let ts : List (ℕ × List Count) = map f (take i xs) in
    let more : map f (take (i + 1) xs) ≡ ts ++ f x ∷ [] = one_more f xs i x d within is in
    record {
      same = λ q. same q ∙ so.same q;
      few = subst (ReadyFor now2) (sym more) (few_next now now2 ts (f x) so.few few others);
      ready = λ apart.
          let ends = apart_front ts (f x) (subst NoneTwice more apart) in
          subst (λ (us : List (ℕ × List Count)). AllReady now2 reserved2 us) (sym more)
          (subst (λ (rs : List (ℕ × List Addition)). AllReady now2 rs (ts ++ f x ∷ [])) (sym pushed)
          (all_zipped_more (IsReadyFor now2) reserved ts r (f x) (ready_stays (f x).0 now now2 reserved ts places others ends.1 (so.ready ends.0)) here));
      long = omega (arith, ap length pushed ∙ length-append reserved (r ∷ []), so.long);
      room = omega (arith, so.room, kept);
    }
