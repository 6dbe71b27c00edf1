-- What a verifier is fed, and which entry it names.
use Rattle.std.proofs.Common.{◌≡◌, ℕ, zero, suc, ◌+◌, ◌<◌, ◌≤◌, Bool, true, false, List, [], ◌∷◌, ◌++◌, length, map, take, drop, Option, Some, None, Result, Ok, Err, refl, sym, ap, ◌∙◌, subst, arith, append_assoc, append-nil, length-append}
use Rattle.std.specs.Prelude.{◌≢◌, ◌&&◌, not, slice_get, unwrap_or, IsTrue, ◌↔◌, IfOk, IfErr, OnOk, OnErr, IsErr, IsErrAnd}
use Rattle.std.specs.List.{AllByRecursion}
use Rattle.std.proofs.lemmas.Option.{unwrap_or-slice_get}
use Rattle.std.proofs.lemmas.List.{map-append, take_more, length-take, take-append-drop}
use Rattle.event_journal.specs.declared.limits.TheConstants.{MOST_ENTRIES}
use Rattle.ipfix_template.specs.DataRecord.{DataRecord}
use Rattle.event_journal.specs.declared.entry.Entry.{Entry}
use Rattle.event_journal.specs.declared.entry.Entry.TheVariants.{Cut}
use Rattle.mediator_history.specs.Numbers.{is_in}
use Rattle.mediator_history.specs.Subscriptions.{is_served}
use Rattle.mediator_history.specs.Disclosed.{given_at}
use Rattle.mediator_history.specs.Cuts.{after_cuts}
use Rattle.mediator_history.proofs.CutLaws.{is_served-cuts, length-cuts, after_cuts-push}
use Rattle.mediator_history.proofs.CountingLaws.{given_at-cuts}
use Rattle.history_verify.specs.declared.replay.Replay.{Replay}
use Rattle.history_verify.specs.declared.verifier.Verifier.{Verifier}
use Rattle.history_verify.specs.declared.fault.Fault.{Fault}
use Rattle.history_verify.specs.declared.fault.Fault.TheVariants.{BadHistory, OutOfMemory}
use Rattle.history_verify.specs.Legal.{IsAccepted, IsLegalCut, AreLegal, IsFirstBad, is_cut}
use Rattle.history_verify.specs.Answers.{NamesFirst, NamesFirstOfAny}
use Rattle.history_verify.specs.Standing.{MayCut, MayCutAll, IsFirstEmpty, IsFirstOr, IsSettled, StandsOver, Repeats, StandsShort, HasTaken, TakesNext, RefusesNext, IsSpoilt, IsFed, IsFedShort, NamesWaiting, NamesUnborne}
use Rattle.history_verify.proofs.LegalLaws.{cuts_legal, unborne, unborne_at_end, may_not, first_bad, first_refused}
use Rattle.history_verify.proofs.CutsPast.{accepted_before, accepted_behind}

-- ---- answers

pub err_gives : {X E : Type 0} {P Q : E → Type 0} (r : Result X E) → IsErr r × IsErrAnd r P → ((e : E) → P e → Q e) → IfErr r Q
err_gives (Ok x) known f = tt
err_gives (Err e) known f = f e known.1

pub on_err : {X E P : Type 0} (r : Result X E) → P → OnErr r P
on_err (Ok x) p = tt
on_err (Err e) p = p

pub err_map : {X E : Type 0} {P Q : E → Type 0} (r : Result X E) → IfErr r P → ((e : E) → P e → Q e) → IfErr r Q
err_map (Ok x) known f = tt
err_map (Err e) known f = f e known

pub if_ok_map : {X E : Type 0} {P Q : X → Type 0} (r : Result X E) → IfOk r P → ((x : X) → P x → Q x) → IfOk r Q
if_ok_map (Ok x) known f = f x known
if_ok_map (Err e) known f = tt

pub none_within : {A : Type 0} (xs : List A) (n : ℕ) → slice_get xs n ≡ None → n < length xs → ⊥
none_within [] n is within = absurd (omega (arith, within))
none_within (x ∷ xs) zero is within = absurd cc
none_within (x ∷ xs) (suc n) is within = none_within xs n is (omega (arith, within))

pub ok_map : {X E P Q : Type 0} (r : Result X E) → OnOk r P → (P → Q) → OnOk r Q
ok_map (Ok x) known f = f known
ok_map (Err e) known f = tt

pub on_err_map : {X E P Q : Type 0} (r : Result X E) → OnErr r P → (P → Q) → OnErr r Q
on_err_map (Ok x) known f = tt
on_err_map (Err e) known f = f known

pub none_where : (n : ℕ) → n ≤ 0 → n ≡ 0
none_where n is = omega (arith, is)

pub some_where : (n : ℕ) → 0 < n → n ≡ 0 → ⊥
some_where n is none = absurd (omega (arith, is, none))

pub not_where : {P : Type 0} (b : Bool) → (IsTrue b ↔ P) → b ≡ false → P → ⊥
not_where b so is p = let on : b ≡ true = so.1 p in absurd cc

pub where_true : {P : Type 0} (b : Bool) → (IsTrue b ↔ P) → b ≡ true → P
where_true b so is = so.0 is

-- ---- cuts behind cuts

cuts_joined : (g : List Entry) (ws cs : List ℕ) → after_cuts (after_cuts g ws) cs ≡ after_cuts g (ws ++ cs)
cuts_joined g ws cs = append_assoc g (map Cut ws) (map Cut cs) ∙ ap (λ (t : List Entry). g ++ t) (sym (map-append Cut ws cs))

parted : (g : List Entry) (front : List ℕ) (c : ℕ) (back : List ℕ) (tail : List Entry) → after_cuts g front ++ Cut c ∷ (map Cut back ++ tail) ≡ after_cuts g (front ++ c ∷ back) ++ tail
parted g front c back tail =
    append_assoc g (map Cut front) (Cut c ∷ (map Cut back ++ tail))
    ∙ ap (λ (t : List Entry). g ++ t) (sym (append_assoc (map Cut front) (map Cut (c ∷ back)) tail) ∙ ap (λ (t : List Entry). t ++ tail) (sym (map-append Cut front (c ∷ back))))
    ∙ sym (append_assoc g (map Cut (front ++ c ∷ back)) tail)

-- a cut that is bad where the entry x stands behind it and others
pub bad_cut : (h g : List Entry) (front : List ℕ) (c : ℕ) (back : List ℕ) (x : Entry) (more : List Entry) (position : ℕ) → IsSettled g → h ≡ after_cuts g (front ++ c ∷ back) → position ≡ length g + length front
    → AreLegal g (map Cut front) (Cut c ∷ (map Cut back ++ x ∷ more)) → (IsLegalCut (after_cuts g front) c (map Cut back ++ x ∷ more) → ⊥) → IsFirstBad ((h ++ x ∷ []) ++ more) position
bad_cut h g front c back x more position so is at legal bad =
    subst (λ (n : ℕ). IsFirstBad ((h ++ x ∷ []) ++ more) n) (sym at)
    (subst (λ (t : List Entry). IsFirstBad t (length g + length front)) (parted g front c back (x ∷ more) ∙ ap (λ (t : List Entry). t ++ x ∷ more) (sym is) ∙ sym (append_assoc h (x ∷ []) more))
    (first_bad g front c (map Cut back ++ x ∷ more) so legal bad))

-- the same where nothing stands behind it and others
pub bad_cut_at_end : (h g : List Entry) (c : ℕ) (back : List ℕ) (position : ℕ) → IsSettled g → h ≡ after_cuts g (c ∷ back) → position ≡ length g → (IsLegalCut (after_cuts g []) c (map Cut back) → ⊥) → IsFirstBad h position
bad_cut_at_end h g c back position so is at bad =
    let same : length g + 0 ≡ position = omega (arith, at) in
    subst (λ (n : ℕ). IsFirstBad h n) same
    (subst (λ (t : List Entry). IsFirstBad t (length g + 0)) (ap (λ (t : List Entry). t ++ Cut c ∷ map Cut back) (append-nil g) ∙ sym is)
    (first_bad g [] c (map Cut back) so tt bad))

-- one entry more of a list's front
one_more : (h : List Entry) (n : ℕ) (x : Entry) → slice_get h n ≡ Some x → take (n + 1) h ≡ take n h ++ x ∷ []
one_more h n x is = take_more h n x (within h n x is) ∙ ap (λ (y : Entry). take n h ++ y ∷ []) (sym (unwrap_or-slice_get h n x) ∙ ap (λ (o : Option Entry). unwrap_or o x) is) where
  within : (h : List Entry) (n : ℕ) (x : Entry) → slice_get h n ≡ Some x → n < length h
  within [] n x is = absurd cc
  within (y ∷ h) zero x is = omega arith
  within (y ∷ h) (suc n) x is = omega (arith, within h n x is)

-- ---- where it stands

-- the cuts that wait, and those behind, stand behind a settled history
pub record IsLaid (v : Verifier) (g : List Entry) (ws cs : List ℕ) (h : List Entry) : Type 0 where
  pub settled : IsSettled g
  pub front : List Entry
  pub stands : Repeats v.replay front
  pub front_is : front ≡ after_cuts g ws
  pub waiting : v.replay.waiting.items ≡ ws
  pub may : MayCutAll g ws
  pub behind : v.behind ≡ length cs
  pub spoilt : IsSpoilt (after_cuts g ws) cs
  pub whole : h ≡ after_cuts g (ws ++ cs)
  pub position : v.replay.position ≡ length g + length ws

pub laid : (v : Verifier) (h : List Entry) (fed : IsFed v h) → IsLaid v fed.over.stands.settled v.replay.waiting.items fed.cuts h
laid v h fed = record {
  settled = so.is_settled;
  front = fed.front;
  stands = fed.over.stands;
  front_is = so.history_is;
  waiting = refl;
  may = so.waiting;
  behind = fed.over.count;
  spoilt = subst (λ (t : List Entry). IsSpoilt t fed.cuts) so.history_is fed.over.spoilt;
  whole = fed.over.history_is ∙ ap (λ (t : List Entry). after_cuts t fed.cuts) so.history_is ∙ cuts_joined fed.over.stands.settled v.replay.waiting.items fed.cuts;
  position = so.position ∙ ap (λ (t : List Entry). length t) so.history_is ∙ length-cuts fed.over.stands.settled v.replay.waiting.items;
} where
  so : StandsOver v.replay fed.over.stands.settled fed.front
  so = fed.over.stands.over

-- ---- where cuts wait, and nothing comes that bears them out

waiting_bad : (v : Verifier) (g h : List Entry) (ws cs : List ℕ) (x : Entry) (more : List Entry) (position : ℕ) → IsLaid v g ws cs h → position + length ws ≡ length g + length ws → 0 < length ws + length cs
    → is_cut x ≡ false → ((s : ℕ) (back : List ℕ) → IsAccepted (after_cuts g [] ++ Cut s ∷ map Cut back) x → given_at s (after_cuts g []) x ≢ [] → h ≡ after_cuts g (s ∷ back) → ⊥) → IsFirstBad ((h ++ x ∷ []) ++ more) position
waiting_bad v g h [] [] x more position so at some no_cut bad = absurd (omega (arith, some))
waiting_bad v g h [] (c ∷ cs) x more position so at some no_cut bad =
    bad_cut h g [] c cs x more position so.settled so.whole (omega (arith, at)) tt (may_not (after_cuts g []) c (map Cut cs ++ x ∷ more) so.spoilt)
waiting_bad v g h (w ∷ ws) cs x more position so at some no_cut bad =
    bad_cut h g [] w (ws ++ cs) x more position so.settled so.whole (omega (arith, at)) tt
    (unborne (after_cuts g []) w (ws ++ cs) x more no_cut (λ is gives. bad w (ws ++ cs) is gives so.whole))

pub names_waiting : (v : Verifier) (h : List Entry) (x : Entry) (e : Fault) → IsFed v h → NamesWaiting e v → is_cut x ≡ false → ((s : ℕ) (g : List Entry) → given_at s g x ≡ []) → NamesFirstOfAny e (h ++ x ∷ [])
names_waiting v h x OutOfMemory fed names no_cut none = tt
names_waiting v h x (BadHistory position) fed names no_cut none = λ more.
    let so = laid v h fed in
    waiting_bad v fed.over.stands.settled h v.replay.waiting.items fed.cuts x more position so (names.0 ∙ so.position) (omega (arith, names.1, so.behind)) no_cut (λ s back is gives whole. gives (none s (after_cuts fed.over.stands.settled [])))

end_bad : (v : Verifier) (g h : List Entry) (ws cs : List ℕ) (position : ℕ) → IsLaid v g ws cs h → position + length ws ≡ length g + length ws → 0 < length ws + length cs → IsFirstBad h position
end_bad v g h [] [] position so at some = absurd (omega (arith, some))
end_bad v g h [] (c ∷ cs) position so at some = bad_cut_at_end h g c cs position so.settled so.whole (omega (arith, at)) (may_not (after_cuts g []) c (map Cut cs) so.spoilt)
end_bad v g h (w ∷ ws) cs position so at some = bad_cut_at_end h g w (ws ++ cs) position so.settled so.whole (omega (arith, at)) (unborne_at_end (after_cuts g []) w (ws ++ cs))

pub names_end : (v : Verifier) (h : List Entry) (e : Fault) → IsFed v h → NamesWaiting e v → NamesFirst e h
names_end v h OutOfMemory fed names = tt
names_end v h (BadHistory position) fed names =
    let so = laid v h fed in
    end_bad v fed.over.stands.settled h v.replay.waiting.items fed.cuts position so (names.0 ∙ so.position) (omega (arith, names.1, so.behind))

-- ---- an entry that isn't accepted

refused_bad : (v : Verifier) (g h : List Entry) (ws cs : List ℕ) (x : Entry) (more : List Entry) (position : ℕ) → IsLaid v g ws cs h → position + length ws ≡ length g + length ws → is_cut x ≡ false → (IsAccepted (after_cuts g ws) x → ⊥)
    → IsFirstBad ((h ++ x ∷ []) ++ more) position
refused_bad v g h [] [] x more position so at no_cut bad =
    let same : h ≡ g = so.whole ∙ append-nil g in
    let there : length g ≡ position = omega (arith, at) in
    subst (λ (n : ℕ). IsFirstBad ((h ++ x ∷ []) ++ more) n) there
    (subst (λ (t : List Entry). IsFirstBad ((t ++ x ∷ []) ++ more) (length g)) (sym same)
    (first_refused g x more so.settled no_cut (λ is. bad (subst (λ (t : List Entry). IsAccepted t x) (sym (append-nil g)) is))))
refused_bad v g h [] (c ∷ cs) x more position so at no_cut bad = waiting_bad v g h [] (c ∷ cs) x more position so at (omega arith) no_cut (λ s back is gives whole. bad (by s back is whole)) where
  by : (s : ℕ) (back : List ℕ) → IsAccepted (after_cuts g [] ++ Cut s ∷ map Cut back) x → h ≡ after_cuts g (s ∷ back) → IsAccepted (after_cuts g []) x
  by s back is whole = accepted_before (after_cuts g []) (s ∷ back) x is
refused_bad v g h (w ∷ ws) cs x more position so at no_cut bad = waiting_bad v g h (w ∷ ws) cs x more position so at (omega arith) no_cut (λ s back is gives whole. bad (by s back is)) where
  by : (s : ℕ) (back : List ℕ) → IsAccepted (after_cuts g [] ++ Cut s ∷ map Cut back) x → IsAccepted (after_cuts g (w ∷ ws)) x
  by s back is = accepted_behind g (w ∷ ws) x (accepted_before g [] x (accepted_before (after_cuts g []) (s ∷ back) x is))

pub names_refused : (v : Verifier) (h : List Entry) (x : Entry) (e : Fault) → IsFed v h → RefusesNext e v.replay x → is_cut x ≡ false → NamesFirstOfAny e (h ++ x ∷ [])
unfolding laid
names_refused v h x OutOfMemory fed names no_cut = tt
names_refused v h x (BadHistory position) fed names no_cut = λ more.
    let so = laid v h fed in
    let refused = names fed.front fed.over.stands in
    refused_bad v fed.over.stands.settled h v.replay.waiting.items fed.cuts x more position so
    (refused.0 ∙ ap (λ (t : List Entry). length t) so.front_is ∙ length-cuts fed.over.stands.settled v.replay.waiting.items) no_cut
    (λ is. refused.1 (subst (λ (t : List Entry). IsAccepted t x) (sym so.front_is) is))

-- ---- cuts that are not borne out by an entry that is accepted

may_front : (g : List Entry) (front back : List ℕ) → MayCutAll g (front ++ back) → MayCutAll g front
may_front g [] back may = tt
may_front g (c ∷ front) back may = (may.0, may_front (g ++ Cut c ∷ []) front back may.1)

may_at : (g : List Entry) (front : List ℕ) (c : ℕ) (back : List ℕ) → MayCutAll g (front ++ c ∷ back) → MayCut (after_cuts g front) c
may_at g [] c back may = subst (λ (t : List Entry). MayCut t c) (sym (append-nil g)) may.0
may_at g (w ∷ front) c back may = subst (λ (t : List Entry). MayCut t c) (append_assoc g (Cut w ∷ []) (map Cut front)) (may_at (g ++ Cut w ∷ []) front c back may.1)

-- the one that may be cut isn't among those that were
not_among : (g : List Entry) (front : List ℕ) (c : ℕ) → is_served c (after_cuts g front) ≡ true → is_in c front ≡ false
not_among g front c on = by (is_served c g) (is_in c front) (sym (is_served-cuts c g front) ∙ on) where
  by : (served among : Bool) → (served && not among) ≡ true → among ≡ false
  by true true is = absurd cc
  by false true is = absurd cc
  by true false is = refl
  by false false is = refl

unborne_bad : (v : Verifier) (g h : List Entry) (ws cs : List ℕ) (x : Entry) (more : List Entry) (position place : ℕ) → IsLaid v g ws cs h → position + length ws ≡ (length g + length ws) + place → is_cut x ≡ false
    → IsAccepted (after_cuts g ws) x → IsFirstEmpty (λ s. given_at s g x) ws place → IsFirstBad ((h ++ x ∷ []) ++ more) position
unborne_bad v g h ws cs x more position place so at no_cut is first =
    bad_cut h g first.front first.sub (first.back ++ cs) x more position so.settled whole (omega (arith, at, first.there))
    (cuts_legal x more g first.front (first.sub ∷ (first.back ++ cs)) (may_front g first.front (first.sub ∷ first.back) may) first.others accepted)
    (unborne (after_cuts g first.front) first.sub (first.back ++ cs) x more no_cut (λ acc gives. gives (given_at-cuts first.sub g first.front x (not_among g first.front first.sub (may_at g first.front first.sub first.back may).served) ∙ first.empty))) where
      joined : ws ++ cs ≡ first.front ++ first.sub ∷ (first.back ++ cs)
      joined = ap (λ (t : List ℕ). t ++ cs) first.subs_are ∙ append_assoc first.front (first.sub ∷ first.back) cs

      whole : h ≡ after_cuts g (first.front ++ first.sub ∷ (first.back ++ cs))
      whole = so.whole ∙ ap (after_cuts g) joined

      may : MayCutAll g (first.front ++ first.sub ∷ first.back)
      may = subst (MayCutAll g) first.subs_are so.may

      accepted : IsAccepted (after_cuts g (first.front ++ first.sub ∷ (first.back ++ cs))) x
      accepted = subst (λ (t : List Entry). IsAccepted t x) (cuts_joined g ws cs ∙ ap (after_cuts g) joined) (accepted_behind (after_cuts g ws) cs x is)

spoilt_bad : (v : Verifier) (g h : List Entry) (ws cs : List ℕ) (x : Entry) (more : List Entry) (position : ℕ) → IsLaid v g ws cs h → position ≡ length g + length ws → 0 < length cs
    → IsAccepted (after_cuts g ws) x → AllByRecursion (λ s. given_at s g x ≢ []) ws → IsFirstBad ((h ++ x ∷ []) ++ more) position
spoilt_bad v g h ws [] x more position so at some is all = absurd (omega (arith, some))
spoilt_bad v g h ws (c ∷ cs) x more position so at some is all =
    bad_cut h g ws c cs x more position so.settled so.whole at
    (cuts_legal x more g ws (c ∷ cs) so.may all (subst (λ (t : List Entry). IsAccepted t x) (cuts_joined g ws (c ∷ cs)) (accepted_behind (after_cuts g ws) (c ∷ cs) x is)))
    (may_not (after_cuts g ws) c (map Cut cs ++ x ∷ more) so.spoilt)

pub names_unborne : (v : Verifier) (h : List Entry) (x : Entry) (e : Fault) (place : Option ℕ) (fed : IsFed v h) → NamesUnborne e v place → is_cut x ≡ false → IsAccepted fed.front x
    → IsFirstOr (λ s. given_at s fed.over.stands.settled x) v.replay.waiting.items place → NamesFirstOfAny e (h ++ x ∷ [])
unfolding laid
names_unborne v h x OutOfMemory place fed names no_cut is first = tt
names_unborne v h x (BadHistory position) (Some place) fed names no_cut is first = λ more.
    let so = laid v h fed in
    unborne_bad v fed.over.stands.settled h v.replay.waiting.items fed.cuts x more position place so (names ∙ ap (λ (n : ℕ). n + place) so.position) no_cut (subst (λ (t : List Entry). IsAccepted t x) so.front_is is) first
names_unborne v h x (BadHistory position) None fed names no_cut is first = λ more.
    let so = laid v h fed in
    spoilt_bad v fed.over.stands.settled h v.replay.waiting.items fed.cuts x more position so (names.0 ∙ so.position) (omega (arith, names.1, so.behind)) (subst (λ (t : List Entry). IsAccepted t x) so.front_is is) first

-- ---- an entry that is taken

no_more : {A : Type 0} (xs : List A) → length xs ≡ 0 → xs ≡ []
no_more [] is = refl
no_more (x ∷ xs) is = absurd (omega (arith, is))

-- where none stand behind, the history is what the replay stands for
pub none_behind : (v : Verifier) (h : List Entry) → (fed : IsFed v h) → v.behind ≡ 0 → h ≡ fed.front
none_behind v h fed none = fed.over.history_is ∙ ap (after_cuts fed.front) (no_more fed.cuts (sym fed.over.count ∙ none)) ∙ append-nil fed.front

pub fed_front : (v : Verifier) (h : List Entry) → Repeats v.replay h → v.behind ≡ 0 → IsFed v h
fed_front v h so none = record { front = h; cuts = []; over = record { stands = so; count = none; history_is = sym (append-nil h); spoilt = tt } }

pub fed_more : (v w : Verifier) (h : List Entry) (x : Entry) (fed : IsFed v h) → v.behind ≡ 0 → w.behind ≡ v.behind → HasTaken w.replay fed.front x → IsFed w (h ++ x ∷ [])
fed_more v w h x fed none same taken =
    fed_front w (h ++ x ∷ []) (subst (λ (t : List Entry). Repeats w.replay (t ++ x ∷ [])) (sym (none_behind v h fed none)) taken.stands) (same ∙ none)

pub fed_same : (v w : Verifier) (h : List Entry) → w.behind ≡ v.behind → ((g : List Entry) → Repeats v.replay g → Repeats w.replay g) → IsFed v h → IsFed w h
fed_same v w h same stands fed = record { front = fed.front; cuts = fed.cuts; over = record { stands = stands fed.front fed.over.stands; count = same ∙ fed.over.count; history_is = fed.over.history_is; spoilt = fed.over.spoilt } }

-- a cut that may not stand there, or stands behind such a one
spoilt_more : (front : List Entry) (cs : List ℕ) (c : ℕ) → IsSpoilt front cs → (length cs ≡ 0 → MayCut front c → ⊥) → IsSpoilt front (cs ++ c ∷ [])
spoilt_more front [] c so bad = bad refl
spoilt_more front (d ∷ cs) c so bad = so

pub fed_spoilt : (v w : Verifier) (h : List Entry) (c : ℕ) → IsFed v h → w.replay ≡ v.replay → w.behind ≡ v.behind + 1 → (v.behind ≡ 0 → (g : List Entry) → Repeats v.replay g → MayCut g c → ⊥) → IsFed w (h ++ Cut c ∷ [])
fed_spoilt v w h c fed replay behind bad = record {
  front = fed.front;
  cuts = fed.cuts ++ c ∷ [];
  over = record {
    stands = subst (λ (r : Replay). Repeats r fed.front) (sym replay) fed.over.stands;
    count = omega (arith, behind, fed.over.count, length-append fed.cuts (c ∷ []));
    history_is = ap (λ (t : List Entry). t ++ Cut c ∷ []) fed.over.history_is ∙ sym (after_cuts-push fed.front fed.cuts c);
    spoilt = spoilt_more fed.front fed.cuts c fed.over.spoilt (λ none. bad (fed.over.count ∙ none) fed.front fed.over.stands);
  };
}

pub fed_cut : (v w : Verifier) (h : List Entry) (c : ℕ) (fed : IsFed v h) → v.behind ≡ 0 → w.behind ≡ v.behind → Repeats w.replay (fed.front ++ Cut c ∷ []) → IsFed w (h ++ Cut c ∷ [])
fed_cut v w h c fed none same stands =
    fed_front w (h ++ Cut c ∷ []) (subst (λ (t : List Entry). Repeats w.replay (t ++ Cut c ∷ [])) (sym (none_behind v h fed none)) stands) (same ∙ none)

-- what its replay stands for is no longer
pub short_front : (v : Verifier) → IsFedShort v → StandsShort v.replay
short_front v short = record {
  history = short.fed.front;
  stands = short.fed.over.stands;
  short = omega (arith, short.short, ap (λ (t : List Entry). length t) short.fed.over.history_is, length-cuts short.fed.front short.fed.cuts);
}

-- ---- an entry that neither cuts nor gives anything

pub took : (v w : Verifier) (x y : Entry) → y ≡ x → v.replay.waiting.items ≡ [] → v.behind ≡ 0 → w.behind ≡ v.behind → TakesNext v.replay x w.replay → (h : List Entry) → IsFed v h → IsFed w (h ++ y ∷ [])
took v w x y is none behind same takes h fed =
    subst (λ (e : Entry). IsFed w (h ++ e ∷ [])) (sym is) (fed_more v w h x fed behind same (takes fed.front fed.over.stands none))

pub refused : (v : Verifier) (x y : Entry) (e : Fault) → y ≡ x → is_cut x ≡ false → RefusesNext e v.replay x → (h : List Entry) → IsFed v h → NamesFirstOfAny e (h ++ y ∷ [])
refused v x y e is no_cut names h fed = subst (λ (z : Entry). NamesFirstOfAny e (h ++ z ∷ [])) (sym is) (names_refused v h x e fed names no_cut)

pub waited : (v : Verifier) (x y : Entry) (e f : Fault) → y ≡ x → e ≡ f → is_cut x ≡ false → ((s : ℕ) (g : List Entry) → given_at s g x ≡ []) → NamesWaiting f v → (h : List Entry) → IsFed v h → NamesFirstOfAny e (h ++ y ∷ [])
waited v x y e f is same no_cut none names h fed =
    subst (λ (z : Entry). NamesFirstOfAny e (h ++ z ∷ [])) (sym is) (names_waiting v h x e fed (subst (λ (w : Fault). NamesWaiting w v) (sym same) names) no_cut none)

-- ---- a whole history

pub fed_short : (v : Verifier) (h : List Entry) (n : ℕ) → IsFed v (take n h) → length h ≤ MOST_ENTRIES → IsFedShort v
fed_short v h n fed few = record { history = take n h; fed = fed; short = omega (arith, few, length-take n h) }

pub fed_next : (v : Verifier) (h : List Entry) (n : ℕ) (x : Entry) → slice_get h n ≡ Some x → IsFed v (take n h ++ x ∷ []) → IsFed v (take (n + 1) h)
fed_next v h n x is fed = subst (IsFed v) (sym (one_more h n x is)) fed

pub first_of_all : (e : Fault) (h : List Entry) (n : ℕ) (x : Entry) → slice_get h n ≡ Some x → NamesFirstOfAny e (take n h ++ x ∷ []) → NamesFirst e h
first_of_all OutOfMemory h n x is names = tt
first_of_all (BadHistory position) h n x is names =
    subst (λ (t : List Entry). IsFirstBad t position) (ap (λ (t : List Entry). t ++ drop (n + 1) h) (sym (one_more h n x is)) ∙ take-append-drop (n + 1) h) (names (drop (n + 1) h))

-- where no cut is found that is not borne out, all are
pub borne : (gives : ℕ → List DataRecord) (ws : List ℕ) (place : Option ℕ) → place ≡ None → IsFirstOr gives ws place → AllByRecursion (λ s. gives s ≢ []) ws
borne gives ws place none first = subst (IsFirstOr gives ws) none first
