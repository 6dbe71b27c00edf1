-- What an advance of the clock does to those that are served, judged by what the engine keeps of them.
use Rattle.std.proofs.Common.{◌≡◌, ℕ, ◌+◌, ◌<◌, Bool, true, false, cond, List, [], ◌∷◌, ◌++◌, length, map, take, refl, sym, ap, ◌∙◌, subst, append-nil}
use Rattle.std.specs.Prelude.{filter, not, get_or}
use Rattle.std.specs.List.{AllByRecursion}
use Rattle.std.proofs.lemmas.Simd.{map-map}
use Rattle.std.proofs.lemmas.List.{map-append, take_more}
use Rattle.std.proofs.lemmas.List.Elements.{filter-append}
use Rattle.ipfix_template.specs.DataRecord.{DataRecord}
use Rattle.flow_aggregate.specs.Groups.{Sample}
use Rattle.flow_aggregate.specs.Running.{SumsStand as StandsForRecords}
use Rattle.flow_aggregate.specs.Closing.{closed_by}
use Rattle.event_journal.specs.declared.entry.Entry.{Entry}
use Rattle.event_journal.specs.declared.entry.Entry.TheVariants.{Advance}
use Rattle.mediator_history.specs.Numbers.{is_in}
use Rattle.mediator_history.specs.Subscriptions.{is_served, served}
use Rattle.mediator_history.specs.Counting.{running}
use Rattle.mediator_history.specs.Disclosed.{given_at}
use Rattle.mediator_history.specs.Cuts.{is_cut_by, after_cuts}
use Rattle.mediator_history.proofs.ListFilters.{filter_alike}
use Rattle.mediator_history.proofs.CutLaws.{is_served-cuts, served-cuts}
use Rattle.mediator_history.proofs.CountingLaws.{given_at-cuts}
use Rattle.mediator_tables.specs.declared.served.Served.{Served}
use Rattle.mediator_tables.specs.declared.share.Share.{Share}
use Rattle.mediator_tables.specs.SubscriptionTable.{shown}
use Rattle.mediator_tables.specs.GroupTable.{groups_at}
use Rattle.mediator_tables.specs.SubscriptionTable.{SubscriptionRows, told, told_in, lacks_room_at}
use Rattle.mediator_state.specs.declared.engine.Engine.{Engine}
use Rattle.mediator_state.specs.Standing.{Stands}
use Rattle.mediator_state.specs.Seen.{waiting_of}
use Rattle.mediator_state.specs.Planning.{share_at, HasRoomIn, AreStreamed, IsJudged}
use Rattle.mediator_state.specs.Advancing.{closing_share, AreParted}
use Rattle.mediator_state.proofs.Judging.{map_same, map_unchanged, filter-map, all_on, all_mapped, all_told, known, sharing, lacks_over, in_filter, room_at, both_so}

abbrev number_in : ℕ × List DataRecord → ℕ
number_in s = s.0

-- ---- what it closes for each

-- one share more that is parted
part_one : (t : SubscriptionRows) (all : List (ℕ × List DataRecord)) (cuts : List ℕ) (left : List (ℕ × List DataRecord)) (x : ℕ × List DataRecord) (lacking : Bool)
    → lacks_room_at t x ≡ lacking → AreParted t all cuts left → AreParted t (all ++ x ∷ []) (cuts ++ cond lacking (x.0 ∷ []) []) (left ++ cond lacking [] (x ∷ []))
part_one t all cuts left x true is so = record {
  cutting = ap (λ l. l ++ x.0 ∷ []) so.cutting
      ∙ sym (map-append number_in (filter (lacks_room_at t) all) (x ∷ []))
      ∙ ap (λ b. map number_in (filter (lacks_room_at t) all ++ cond b (x ∷ []) [])) (sym is)
      ∙ ap (map number_in) (sym (filter-append (lacks_room_at t) all (x ∷ [])));
  leaving = append-nil left ∙ so.leaving ∙ sym (append-nil (filter (λ s. not (lacks_room_at t s)) all))
      ∙ ap (λ b. filter (λ s. not (lacks_room_at t s)) all ++ cond (not b) (x ∷ []) []) (sym is)
      ∙ sym (filter-append (λ s. not (lacks_room_at t s)) all (x ∷ []));
}
part_one t all cuts left x false is so = record {
  cutting = append-nil cuts ∙ so.cutting
      ∙ ap (map number_in) (sym (append-nil (filter (lacks_room_at t) all)) ∙ ap (λ b. filter (lacks_room_at t) all ++ cond b (x ∷ []) []) (sym is) ∙ sym (filter-append (lacks_room_at t) all (x ∷ [])));
  leaving = ap (λ l. l ++ x ∷ []) so.leaving
      ∙ ap (λ b. filter (λ s. not (lacks_room_at t s)) all ++ cond (not b) (x ∷ []) []) (sym is)
      ∙ sym (filter-append (λ s. not (lacks_room_at t s)) all (x ∷ []));
}

-- the share of what an advance closes for one of those that are served
pub record IsShareOf {Q : Type 0} (e : Engine Q) (t : ℕ) (who : Served) (s : Share) : Type 0 where
  pub sub : s.sub ≡ who.sub
  pub closes : (counted : List Sample) → StandsForRecords (groups_at e.groups who.sub) counted → s.given ≡ closed_by t counted

-- those before a place are parted
abbrev pub IsParting : {Q : Type 0} → Engine Q → ℕ → List Served → List ℕ → List Share → ℕ → Type 0
IsParting e t all cuts shares place = (h : List Entry) → Stands e h → AreParted e.subscriptions (map (closing_share h t) (map told (take place all))) cuts (map shown shares)

one_more : {Q : Type 0} (e : Engine Q) (h : List Entry) (t : ℕ) (all : List Served) (place : ℕ) (who other : Served) (s : Share) → Stands e h → place < length all → who ≡ get_or all place other → IsShareOf e t who s
    → map (closing_share h t) (map told (take (place + 1) all)) ≡ map (closing_share h t) (map told (take place all)) ++ shown s ∷ []
one_more e h t all place who other s so within at is =
    ap (λ l. map (closing_share h t) (map told l)) (take_more all place other within ∙ ap (λ x. take place all ++ x ∷ []) (sym at))
    ∙ ap (map (closing_share h t)) (map-append told (take place all) (who ∷ []))
    ∙ map-append (closing_share h t) (map told (take place all)) (told who ∷ [])
    ∙ ap (λ x. map (closing_share h t) (map told (take place all)) ++ x ∷ []) (ap (sharing who.sub) (sym (is.closes (running who.sub h) (so.groups who.sub))) ∙ ap (λ n. sharing n s.given) (sym is.sub))

pub parting_cut : {Q : Type 0} (e : Engine Q) (t : ℕ) (all : List Served) (cuts more : List ℕ) (shares : List Share) (place : ℕ) (who other : Served) (s : Share)
    → IsParting e t all cuts shares place → place < length all → who ≡ get_or all place other → IsShareOf e t who s → lacks_room_at e.subscriptions (shown s) ≡ true → more ≡ cuts ++ who.sub ∷ []
    → IsParting e t all more shares (place + 1)
parting_cut e t all cuts more shares place who other s so within at is lacking grown h stands =
    subst (λ l. AreParted e.subscriptions l more (map shown shares)) (sym (one_more e h t all place who other s stands within at is))
    (subst (λ l. AreParted e.subscriptions (map (closing_share h t) (map told (take place all)) ++ shown s ∷ []) l (map shown shares)) (sym (grown ∙ ap (λ n. cuts ++ n ∷ []) (sym is.sub)))
    (subst (AreParted e.subscriptions (map (closing_share h t) (map told (take place all)) ++ shown s ∷ []) (cuts ++ s.sub ∷ [])) (append-nil (map shown shares))
    (part_one e.subscriptions (map (closing_share h t) (map told (take place all))) cuts (map shown shares) (shown s) true lacking (so h stands))))

pub parting_left : {Q : Type 0} (e : Engine Q) (t : ℕ) (all : List Served) (cuts : List ℕ) (shares more : List Share) (place : ℕ) (who other : Served) (s : Share)
    → IsParting e t all cuts shares place → place < length all → who ≡ get_or all place other → IsShareOf e t who s → lacks_room_at e.subscriptions (shown s) ≡ false → more ≡ shares ++ s ∷ []
    → IsParting e t all cuts more (place + 1)
parting_left e t all cuts shares more place who other s so within at is room grown h stands =
    subst (λ l. AreParted e.subscriptions l cuts (map shown more)) (sym (one_more e h t all place who other s stands within at is))
    (subst (AreParted e.subscriptions (map (closing_share h t) (map told (take place all)) ++ shown s ∷ []) cuts) (sym (ap (map shown) grown ∙ map-append shown shares (s ∷ [])))
    (subst (λ l. AreParted e.subscriptions (map (closing_share h t) (map told (take place all)) ++ shown s ∷ []) l (map shown shares ++ shown s ∷ [])) (append-nil cuts)
    (part_one e.subscriptions (map (closing_share h t) (map told (take place all))) cuts (map shown shares) (shown s) false room (so h stands))))

shares_at : {Q : Type 0} (e : Engine Q) (h : List Entry) (t : ℕ) (all : List Served) (shares : List (ℕ × List DataRecord)) → Stands e h → map told all ≡ map (told_in e.subscriptions) e.subscriptions.served
    → shares ≡ map (closing_share h t) (map told all) → shares ≡ map (share_at h (Advance t)) (served h)
shares_at e h t all shares so tells are =
    are ∙ ap (map (closing_share h t)) (all_told e h all so tells) ∙ map-map (closing_share h t) (known h) (served h)

-- ---- whom it cuts, and who is left

abbrev lacks_at : {Q : Type 0} → Engine Q → List Entry → ℕ → ℕ → Bool
lacks_at e h t sub = lacks_room_at e.subscriptions (share_at h (Advance t) sub)

lacks_is : {Q : Type 0} (e : Engine Q) (h : List Entry) (t : ℕ) → Stands e h → (sub : ℕ) → is_served sub h ≡ true → lacks_at e h t sub ≡ is_cut_by e.limits h (Advance t) (waiting_of e) sub
lacks_is e h t so sub on = lacks_over e h so sub on (given_at sub h (Advance t))

cuts_are : {Q : Type 0} (e : Engine Q) (h : List Entry) (t : ℕ) (shares : List (ℕ × List DataRecord)) → Stands e h → shares ≡ map (share_at h (Advance t)) (served h)
    → map number_in (filter (lacks_room_at e.subscriptions) shares) ≡ filter (is_cut_by e.limits h (Advance t) (waiting_of e)) (served h)
cuts_are e h t shares so are =
    ap (λ l. map number_in (filter (lacks_room_at e.subscriptions) l)) are
    ∙ ap (map number_in) (filter-map (lacks_room_at e.subscriptions) (share_at h (Advance t)) (served h))
    ∙ map-map number_in (share_at h (Advance t)) (filter (lacks_at e h t) (served h))
    ∙ map_unchanged (filter (lacks_at e h t) (served h))
    ∙ filter_alike (lacks_at e h t) (is_cut_by e.limits h (Advance t) (waiting_of e)) (served h)
    (all_on (λ sub. lacks_at e h t sub ≡ is_cut_by e.limits h (Advance t) (waiting_of e) sub) h (lacks_is e h t so))

left_uncut : (h : List Entry) (cuts : List ℕ) (sub : ℕ) → is_served sub (after_cuts h cuts) ≡ true → is_in sub cuts ≡ false
left_uncut h cuts sub on = (both_so (is_served sub h) (is_in sub cuts) (sym (is_served-cuts sub h cuts) ∙ on)).1

left_are : {Q : Type 0} (e : Engine Q) (h : List Entry) (t : ℕ) (shares : List (ℕ × List DataRecord)) (cuts : List ℕ) → Stands e h → shares ≡ map (share_at h (Advance t)) (served h)
    → cuts ≡ filter (is_cut_by e.limits h (Advance t) (waiting_of e)) (served h)
    → filter (λ s. not (lacks_room_at e.subscriptions s)) shares ≡ map (share_at (after_cuts h cuts) (Advance t)) (served (after_cuts h cuts))
left_are e h t shares cuts so are cutting =
    ap (filter (λ s. not (lacks_room_at e.subscriptions s))) are
    ∙ filter-map (λ s. not (lacks_room_at e.subscriptions s)) (share_at h (Advance t)) (served h)
    ∙ ap (map (share_at h (Advance t))) (filter_alike (λ sub. not (lacks_at e h t sub)) (λ sub. not (is_in sub cuts)) (served h)
    (all_on (λ sub. not (lacks_at e h t sub) ≡ not (is_in sub cuts)) h
    (λ sub on. ap not (lacks_is e h t so sub on ∙ sym (in_filter h (is_cut_by e.limits h (Advance t) (waiting_of e)) cuts sub cutting on)))))
    ∙ ap (map (share_at h (Advance t))) (sym (served-cuts h cuts))
    ∙ map_same (share_at h (Advance t)) (share_at (after_cuts h cuts) (Advance t)) (served (after_cuts h cuts))
    (all_on (λ sub. share_at h (Advance t) sub ≡ share_at (after_cuts h cuts) (Advance t) sub) (after_cuts h cuts)
    (λ sub on. ap (sharing sub) (sym (given_at-cuts sub h cuts (Advance t) (left_uncut h cuts sub on)))))

room_left : {Q : Type 0} (e : Engine Q) (h : List Entry) (t : ℕ) (cuts : List ℕ) → Stands e h → cuts ≡ filter (is_cut_by e.limits h (Advance t) (waiting_of e)) (served h)
    → AllByRecursion (HasRoomIn e.subscriptions) (map (share_at (after_cuts h cuts) (Advance t)) (served (after_cuts h cuts)))
room_left e h t cuts so are =
    all_mapped (HasRoomIn e.subscriptions) (share_at (after_cuts h cuts) (Advance t)) (served (after_cuts h cuts))
    (all_on (λ sub. HasRoomIn e.subscriptions (share_at (after_cuts h cuts) (Advance t) sub)) (after_cuts h cuts)
    (λ sub on. one sub (both_so (is_served sub h) (is_in sub cuts) (sym (is_served-cuts sub h cuts) ∙ on)))) where
      one : (sub : ℕ) → (is_served sub h ≡ true) × (is_in sub cuts ≡ false) → HasRoomIn e.subscriptions (share_at (after_cuts h cuts) (Advance t) sub)
      one sub is = subst (λ more. HasRoomIn e.subscriptions (sharing sub more)) (sym (given_at-cuts sub h cuts (Advance t) is.1))
          (room_at e h so sub is.0 (given_at sub h (Advance t))
          (lacks_over e h so sub is.0 (given_at sub h (Advance t)) ∙ sym (in_filter h (is_cut_by e.limits h (Advance t) (waiting_of e)) cuts sub are is.0) ∙ is.1))

-- ---- all of it

pub closing_judged : {Q : Type 0} (e : Engine Q) (h : List Entry) (t : ℕ) (all : List Served) (cuts : List ℕ) (left : List (ℕ × List DataRecord))
    → Stands e h → map told all ≡ map (told_in e.subscriptions) e.subscriptions.served → AreParted e.subscriptions (map (closing_share h t) (map told all)) cuts left → AllByRecursion AreStreamed left
    → IsJudged e h (Advance t) cuts left []
closing_judged e h t all cuts left so tells parted streamable = record {
  cuts_are = are;
  shares_are = giving;
  entries_are = refl;
  room = subst (AllByRecursion (HasRoomIn e.subscriptions)) (sym giving) (room_left e h t cuts so are);
  streamable = streamable;
} where
  shared : map (closing_share h t) (map told all) ≡ map (share_at h (Advance t)) (served h)
  shared = shares_at e h t all (map (closing_share h t) (map told all)) so tells refl

  are : cuts ≡ filter (is_cut_by e.limits h (Advance t) (waiting_of e)) (served h)
  are = parted.cutting ∙ cuts_are e h t (map (closing_share h t) (map told all)) so shared

  giving : left ≡ map (share_at (after_cuts h cuts) (Advance t)) (served (after_cuts h cuts))
  giving = parted.leaving ∙ left_are e h t (map (closing_share h t) (map told all)) cuts so shared are

-- the same where what is served was lent as a slice
pub plan_judged : {Q : Type 0} (e : Engine Q) (t : ℕ) (all lent : List Served) (cuts : List ℕ) (left : List Share) (lent2 : List Share) → map told all ≡ map (told_in e.subscriptions) e.subscriptions.served → lent ≡ all
    → ((h : List Entry) → Stands e h → AreParted e.subscriptions (map (closing_share h t) (map told lent)) cuts (map shown left)) → lent2 ≡ left → AllByRecursion AreStreamed (map shown lent2)
    → (h : List Entry) → Stands e h → IsJudged e h (Advance t) cuts (map shown left) []
plan_judged e t all lent cuts left lent2 tells same parted same_too streamable h so =
    closing_judged e h t all cuts (map shown left) so tells (subst (λ l. AreParted e.subscriptions (map (closing_share h t) (map told l)) cuts (map shown left)) same (parted h so))
    (subst (λ l. AllByRecursion AreStreamed (map shown l)) same_too streamable)
