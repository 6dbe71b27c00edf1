-- Loops over shares: what is given, and room that is reserved.
use Rattle.std.proofs.Common.{◌≡◌, ◌≢◌, ◌≤◌, ◌<◌, ◌+◌, ℕ, cond, eqb, List, [], ◌∷◌, ◌++◌, length, map, take, Option, Some, None, refl, sym, ap, ◌∙◌, subst, arith, append_assoc, append-nil}
use Rattle.std.specs.Prelude.{get_or, IfSome}
use Rattle.std.specs.List.{AllByRecursion}
use Rattle.std.proofs.lemmas.Grind.{flat_map-append}
use Rattle.std.proofs.lemmas.List.{map-append, take_more}
use Rattle.ipfix_template.specs.DataRecord.{DataRecord}
use Rattle.ipfix_session.specs.Keeping.{at_key}
use Rattle.subscriber_stream.specs.Standing.{StandsAt}
use Rattle.mediator_tables.specs.declared.subscription.Subscription.{Subscription}
use Rattle.mediator_tables.specs.SubscriptionTable.{Related, HasSpare, given_to, IsReady, AreReadyAmong, TakesGiven}
use Rattle.mediator_tables.specs.Naming.{KeepsSpare}

-- ---- what is given

both_given : (a b : List DataRecord) (s t u : Subscription) → TakesGiven a s t → TakesGiven b t u → TakesGiven (a ++ b) s u
both_given a b s t u f g = record {
  name = g.name ∙ f.name;
  is_cut = g.is_cut ∙ f.is_cut;
  limits = g.limits ∙ f.limits;
  takes = record { stands = λ records p at. subst (λ (l : List DataRecord). StandsAt u.stream.standing l p) (append_assoc records a b) (g.takes.stands (records ++ a) p (f.takes.stands records p at)) };
}

related_both : (a b : List DataRecord) (o p r : Option Subscription) → Related (TakesGiven a) o p → Related (TakesGiven b) p r → Related (TakesGiven (a ++ b)) o r
related_both a b None None None f g = tt
related_both a b None None (Some u) f g = g
related_both a b None (Some t) r f g = absurd f
related_both a b (Some s) None r f g = absurd f
related_both a b (Some s) (Some t) None f g = g
related_both a b (Some s) (Some t) (Some u) f g = both_given a b s t u f g

given_nothing : (s : Subscription) → TakesGiven [] s s
given_nothing s = record {
  name = refl;
  is_cut = refl;
  limits = refl;
  takes = record { stands = λ records p at. subst (λ (l : List DataRecord). StandsAt s.stream.standing l p) (sym (append-nil records)) at };
}

related_nothing : (o : Option Subscription) → Related (TakesGiven []) o o
related_nothing None = tt
related_nothing (Some s) = given_nothing s

ready_stays : (sub : ℕ) (es es2 : List (ℕ × Subscription)) (ss : List (ℕ × List DataRecord)) → ((q : ℕ) → q ≢ sub → at_key q es2 ≡ at_key q es)
    → AllByRecursion (λ o. o.0 ≢ sub) ss → AreReadyAmong es ss → AreReadyAmong es2 ss
ready_stays sub es es2 [] others apart ready = tt
ready_stays sub es es2 (s ∷ ss) others apart ready =
    (subst (λ (o : Option Subscription). IfSome o (λ x. IsReady x.stream s.1)) (sym (others s.0 apart.0)) ready.0, ready.1, ready_stays sub es es2 ss others apart.1 ready.2)

-- some shares were given, and the rest can be
pub record IsGiving (old now : List (ℕ × Subscription)) (all rest : List (ℕ × List DataRecord)) : Type 0 where
  pub done : List (ℕ × List DataRecord)
  pub split : all ≡ done ++ rest
  pub each : (q : ℕ) → Related (TakesGiven (given_to q done)) (at_key q old) (at_key q now)
  pub ready : AreReadyAmong now rest

pub giving_start : (table es : List (ℕ × Subscription)) (all rest : List (ℕ × List DataRecord)) → es ≡ table → all ≡ rest → AreReadyAmong table all → IsGiving table es all rest
giving_start table es all rest same is ready = record {
  done = [];
  split = is;
  each = λ q. subst (λ (now : List (ℕ × Subscription)). Related (TakesGiven []) (at_key q table) (at_key q now)) (sym same) (related_nothing (at_key q table));
  ready = subst (λ (now : List (ℕ × Subscription)). AreReadyAmong now rest) (sym same) (subst (AreReadyAmong table) is ready);
}

pub giving_ready : (old now : List (ℕ × Subscription)) (all rest rest2 : List (ℕ × List DataRecord)) (s : ℕ × List DataRecord) → rest ≡ s ∷ rest2 → IsGiving old now all rest
    → IfSome (at_key s.0 now) (λ x. IsReady x.stream s.1)
giving_ready old now all rest rest2 s is so =
    let ready : AreReadyAmong now (s ∷ rest2) = subst (AreReadyAmong now) is so.ready in
    ready.0

pub giving_next : (old now now2 : List (ℕ × Subscription)) (all rest rest2 : List (ℕ × List DataRecord)) (s : ℕ × List DataRecord) → rest ≡ s ∷ rest2
    → ((q : ℕ) → Related (TakesGiven (given_to q (s ∷ []))) (at_key q now) (at_key q now2)) → ((q : ℕ) → q ≢ s.0 → at_key q now2 ≡ at_key q now)
    → IsGiving old now all rest → IsGiving old now2 all rest2
giving_next old now now2 all rest rest2 s is gives others so =
    let ready : AreReadyAmong now (s ∷ rest2) = subst (AreReadyAmong now) is so.ready in
    record {
      done = so.done ++ s ∷ [];
      split = so.split ∙ ap (λ (l : List (ℕ × List DataRecord)). so.done ++ l) is ∙ sym (append_assoc so.done (s ∷ []) rest2);
      each = λ q. subst (λ (l : List DataRecord). Related (TakesGiven l) (at_key q old) (at_key q now2)) (sym (flat_map-append (λ s. cond (eqb s.0 q) s.1 []) so.done (s ∷ [])))
          (related_both (given_to q so.done) (given_to q (s ∷ [])) (at_key q old) (at_key q now) (at_key q now2) (so.each q) (gives q));
      ready = ready_stays s.0 now now2 rest2 others ready.1 ready.2;
    }

pub giving_end : (old now : List (ℕ × Subscription)) (all rest : List (ℕ × List DataRecord)) → IsGiving old now all rest → rest ≡ []
    → (q : ℕ) → Related (TakesGiven (given_to q all)) (at_key q old) (at_key q now)
giving_end old now all rest so none q =
    subst (λ (l : List (ℕ × List DataRecord)). Related (TakesGiven (given_to q l)) (at_key q old) (at_key q now))
    (sym (so.split ∙ ap (λ (l : List (ℕ × List DataRecord)). so.done ++ l) none ∙ append-nil so.done)) (so.each q)

-- ---- room that is reserved

spare_by : (more : List DataRecord) (o p : Option Subscription) → Related (λ s t. s.stream.spare ≤ t.stream.spare) o p → IfSome o (λ s. length more ≤ s.stream.spare) → IfSome p (λ s. length more ≤ s.stream.spare)
spare_by more None None keeps has = tt
spare_by more None (Some t) keeps has = absurd keeps
spare_by more (Some s) None keeps has = tt
spare_by more (Some s) (Some t) keeps has = omega arith

spare_stays : (es es2 : List (ℕ × Subscription)) → KeepsSpare es es2 → (ss : List (ℕ × List DataRecord)) → AllByRecursion (HasSpare es) ss → AllByRecursion (HasSpare es2) ss
spare_stays es es2 keeps [] has = tt
spare_stays es es2 keeps (s ∷ ss) has = (spare_by s.1 (at_key s.0 es) (at_key s.0 es2) (keeps s.0) has.0, spare_stays es es2 keeps ss has.1)

all_push : {X : Type 0} (P : X → Type 0) (xs : List X) (x : X) → AllByRecursion P xs → P x → AllByRecursion P (xs ++ x ∷ [])
all_push P [] x all here = (here, tt)
all_push P (y ∷ ys) x all here = (all.0, all_push P ys x all.1 here)

-- one share more of those in a list
more_shown : {X Y : Type 0} (f : X → Y) (xs : List X) (i : ℕ) (x d : X) → i < length xs → x ≡ get_or xs i d → map f (take (i + 1) xs) ≡ map f (take i xs) ++ f x ∷ []
more_shown f xs i x d within is = ap (map f) (take_more xs i d within) ∙ map-append f (take i xs) (get_or xs i d ∷ []) ∙ ap (λ y. map f (take i xs) ++ f y ∷ []) (sym is)

pub spare_more : {X : Type 0} (f : X → ℕ × List DataRecord) (es es2 : List (ℕ × Subscription)) (xs : List X) (i : ℕ) (x d : X) → i < length xs → x ≡ get_or xs i d
    → KeepsSpare es es2 → HasSpare es2 (f x) → AllByRecursion (HasSpare es) (map f (take i xs)) → AllByRecursion (HasSpare es2) (map f (take (i + 1) xs))
spare_more f es es2 xs i x d within is keeps here before =
    subst (AllByRecursion (HasSpare es2)) (sym (more_shown f xs i x d within is)) (all_push (HasSpare es2) (map f (take i xs)) (f x) (spare_stays es es2 keeps (map f (take i xs)) before) here)
